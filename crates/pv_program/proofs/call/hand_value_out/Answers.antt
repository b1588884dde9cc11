use Rattle.std.proofs.Common.{refl}
use Rattle.std.proofs.lemmas.Bool.{false≢true}
use Rattle.pv_tree.specs.View.{arg_tree, expr_tree}
use Rattle.pv_resolve.specs.Contexts.{block_in}
use Rattle.pv_resolve.proofs.ForCallers.{failed}
use Rattle.pv_program.specs.Handed.{handed_value}
use Rattle.pv_program.proofs.Passing.{taken-one, value-spot-seen}
use Rattle.pv_program.proofs.call.hand_value_out.Goals as goal

pub returns : goal.returns
returns c = record {
  grows = c.in_ok-to.ensures.grows;
  taken = λ source at hs is inner value held before.
      let callee = block_in c.args.inner.now in
      taken-one c.args.made.now.items c.push.new.self.items hs _ (handed_value source callee c.args.ty) (arg_tree c.args.arg.now)
      (expr_tree c.args.arg.now.value) c.in_ok-to.ensures.grows c.in_ok-push.ensures.items held refl
      (c.in_ok-to.ensures.goes source is)
      (λ first. value-spot-seen source callee c.args.ty _ first value (c.in_ok-n.ensures.is source inner)) before;
  calls = c.in_ok-to.ensures.calls;
  room = λ source is inner h k fits. tt;
}

pub returns-in_err-to-clause-room : goal.returns-in_err-to-clause-room
returns-in_err-to-clause-room c = λ source is inner h k fits. failed _ _ c.from_residual.ensures.1 (c.in_err-to.ensures.room source is h fits)

pub returns-in_err-n-clause-room : goal.returns-in_err-n-clause-room
returns-in_err-n-clause-room c = λ source is inner h k fits. absurd (false≢true (c.in_err-n.ensures.room source inner k))
