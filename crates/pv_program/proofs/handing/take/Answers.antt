use Rattle.std.proofs.Common.{◌∙◌, sym, ap}
use Rattle.std.proofs.lemmas.Bool.{false≢true}
use Rattle.pv_tree.specs.View.{expr_tree}
use Rattle.pv_mean.specs.Activations.{spot_of}
use Rattle.pv_resolve.proofs.ForCallers.{failed}
use Rattle.pv_resolve.specs.Contexts.{block_in}
use Rattle.pv_program.proofs.Slots.{parameter_slotted}
use Rattle.pv_program.proofs.Passing.{taken-one}
use Rattle.pv_program.proofs.handing.take.Goals as goal

pub returns : goal.returns
returns c = record {
  grows = c.in_ok-to.ensures.grows;
  taken = λ source at h hs arg is inner held same spot before.
      taken-one c.args.made.now.items c.push.new.self.items hs (record { from = c.in_ok-from.from; to = c.in_ok-to.to }) h arg (expr_tree c.args.e.now) c.in_ok-to.ensures.grows
      c.in_ok-push.ensures.items held same (c.in_ok-to.ensures.goes source is)
      (λ first. c.in_ok-from.ensures.spot first ∙ ap spot_of (c.in_ok-begin.ensures.value source first inner) ∙ sym (spot first)) before;
  calls = c.in_ok-to.ensures.calls;
  room = λ source is inner h k fits v. tt;
}

pub returns-in_err-to-clause-room : goal.returns-in_err-to-clause-room
returns-in_err-to-clause-room c = λ source is inner h k fits v.
    failed _ _ c.from_residual.ensures.1 (c.in_err-to.ensures.room source is h fits)

pub returns-in_err-begin-clause-room : goal.returns-in_err-begin-clause-room
returns-in_err-begin-clause-room c = λ source is inner h k fits v. absurd (false≢true (c.in_err-begin.ensures.room source inner k))

pub returns-in_err-from-clause-room : goal.returns-in_err-from-clause-room
returns-in_err-from-clause-room c = λ source is inner h k fits v.
    absurd (false≢true (c.in_err-from.ensures.room (parameter_slotted source (block_in c.args.inner.now) c.args.name.now v.0 v.1 c.in_ok-begin.begin
    (λ first. c.in_ok-begin.ensures.value source first inner))))
