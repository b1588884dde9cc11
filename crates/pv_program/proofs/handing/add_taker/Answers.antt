use Rattle.std.proofs.Common.{refl, subst, Some, None}
use Rattle.pv_resolve.specs.Contexts.{block_in}
use Rattle.pv_run.specs.Code.{GoesTo}
use Rattle.pv_resolve.proofs.ForCallers.{failed}
use Rattle.pv_tree.specs.View.{expr_tree, operand_tree}
use Rattle.pv_program.proofs.Parameters.{operand_fits}
use Rattle.pv_program.proofs.Growing.{extends-same}
use Rattle.pv_program.proofs.handing.add_taker.Goals as goal

pub returns-in_ok-to-in-Some : goal.returns-in_ok-to-in-Some
returns-in_ok-to-in-Some c = record {
  grows = c.in_ok-to-in-Some.ensures.grows;
  goes = λ source is. subst (λ o. GoesTo source (block_in c.args.context.now) c.add_target.new.program (Some c.in_ok-to-in-Some.to) o)
      c.in-Some.ensures (c.in_ok-to-in-Some.ensures.means source is);
  calls = c.in_ok-to-in-Some.ensures.calls;
  room = λ source is h fits. tt;
}

pub returns-in-None : goal.returns-in-None
returns-in-None c = record {
  grows = extends-same c.args.program.now;
  goes = λ source is. subst (λ o. GoesTo source (block_in c.args.context.now) c.args.program.now None o) c.in-None.ensures tt;
  calls = refl;
  room = λ source is h fits. tt;
}

pub returns-in_err-to-in-Some-clause-room : goal.returns-in_err-to-in-Some-clause-room
returns-in_err-to-in-Some-clause-room c = λ source is h fits.
    failed _ _ c.from_residual.ensures.1
    (c.in_err-to-in-Some.ensures.room source is h (operand_fits (expr_tree c.args.e.now) (operand_tree c.in-Some.operand.now) c.in-Some.ensures fits))
