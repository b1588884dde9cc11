use Rattle.std.proofs.Common.{sym, ap, subst, ◌∙◌}
use Rattle.std.proofs.lemmas.Option.{same_Some, none-some}
use Rattle.std.specs.Prelude.{option_map}
use Rattle.pv_tree.specs.View.{operand_tree}
use Rattle.pv_resolve.specs.Rooms.{FitsOperand}
use Rattle.pv_resolve.proofs.ForCallers.{failed}
use Rattle.pv_program.proofs.action.with_operand.Goals as goal

pub returns-in_ok-action-in-Some : goal.returns-in_ok-action-in-Some
returns-in_ok-action-in-Some c = record {
  grows = c.in_ok-action-in-Some.ensures.grows;
  is = λ source is. c.in_ok-action-in-Some.ensures.is source is (sym c.operand.ensures ∙ ap (option_map (λ o. operand_tree o.now)) c.in-Some.is);
  leads = c.in_ok-action-in-Some.ensures.leads;
  suits = c.in_ok-action-in-Some.ensures.suits;
  calls = c.in_ok-action-in-Some.ensures.calls;
  room = λ source o is h e fits on. tt;
}

pub returns-in_err-action-in-Some-clause-room : goal.returns-in_err-action-in-Some-clause-room
returns-in_err-action-in-Some-clause-room c = λ source o is h e fits on.
    failed _ _ c.from_residual.ensures.1 (c.in_err-action-in-Some.ensures.room source is h
    (subst FitsOperand (same_Some _ _ (sym e ∙ (sym c.operand.ensures ∙ ap (option_map (λ o. operand_tree o.now)) c.in-Some.is))) fits) on)

pub returns-in-None-clause-room : goal.returns-in-None-clause-room
returns-in-None-clause-room c = λ source o is h e fits on.
    absurd (none-some o (sym (sym c.operand.ensures ∙ ap (option_map (λ o. operand_tree o.now)) c.in-None.is) ∙ e))
