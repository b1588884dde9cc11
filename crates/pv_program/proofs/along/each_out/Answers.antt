use Rattle.std.proofs.Common.{refl, arith, map, take, ◌∙◌}
use Rattle.pv_types.specs.View.{var_tree}
use Rattle.pv_resolve.specs.Contexts.{block_in}
use Rattle.pv_resolve.proofs.ForCallers.{failed}
use Rattle.pv_program.specs.Handed.{goes_out, handed_of}
use Rattle.pv_program.proofs.Growing.{extends-same, extends-then}
use Rattle.pv_program.proofs.Parameters.{var_among}
use Rattle.pv_program.proofs.Passing.{taken-begun, taken-grown, taken-seen}
use Rattle.pv_program.proofs.along.each_out.Goals as goal

pub loop-var-init : goal.loop-var-init
loop-var-init c = record {
  grows = extends-same c.args.program.now;
  are = λ source is inner none. taken-begun c.args.made.now.items none;
  calls = refl;
}

pub loop-var-preserved : goal.loop-var-preserved
loop-var-preserved c = record {
  grows = extends-then _ _ _ c.loop-var.invariant.grows c.in_ok-hand_out.ensures.grows;
  are = λ source is inner none.
      taken-grown goes_out c.vars-vars.result.now c.loop-var.var-index _ c.var-item.result c.hand_out.new.made.items c.loop-var-test.true
      c.var-item.is refl
      (c.in_ok-hand_out.ensures.taken source
      (handed_of source (block_in c.args.inner.now) goes_out (map var_tree (take c.loop-var.var-index c.vars-vars.result.now))) is inner
      (c.loop-var.invariant.are source is inner none));
  calls = c.in_ok-hand_out.ensures.calls ∙ c.loop-var.invariant.calls;
}

pub returns-clause-taken : goal.returns-clause-taken
returns-clause-taken c = λ source is inner none.
    taken-seen goes_out c.vars-vars.result.now c.loop-var.var-index c.loop-var.made.items _ (omega arith) c.vars-vars.ensures
    (c.loop-var.invariant.are source is inner none)

pub returns-in_err-hand_out-clause-room : goal.returns-in_err-hand_out-clause-room
returns-in_err-hand_out-clause-room c = λ source is inner h k fits.
    failed _ _ c.from_residual.ensures.1 (c.in_err-hand_out.ensures.room source is inner h k fits
    (var_among (block_in c.args.inner.now) c.vars-vars.result.now c.loop-var.var-index c.var-item.result _ c.vars-vars.ensures
    c.loop-var-test.true c.var-item.is))
