use Rattle.std.proofs.Common.{◌≡◌, IfOk, nat_eq, sym, ap, ◌∙◌, subst}
use Rattle.pv_case_fit.specs.Named.{name_of_root}
use Rattle.pv_case_fit.proofs.Seen.{steps_unnamed, root_named}
use Rattle.pv_case_fit.proofs.entry.name_of_operand.Goals as goal

pub returns-then-not-is_empty : goal.returns-then-not-is_empty
returns-then-not-is_empty c =
    sym (steps_unnamed c.args.operand.now
    (ap (λ n. nat_eq n 0) (sym c.args.operand.now.steps.ok.0) ∙ sym c.is_empty.ensures ∙ c.if-not-is_empty.true))

pub returns : goal.returns
returns c =
    subst (λ named. IfOk c.name_of_root.result (λ o. o ≡ named))
    (ap name_of_root c.deref.ensures ∙ sym (root_named c.args.operand.now
    (ap (λ n. nat_eq n 0) (sym c.args.operand.now.steps.ok.0) ∙ sym c.is_empty.ensures ∙ c.if-not-is_empty.false)))
    c.name_of_root.ensures
