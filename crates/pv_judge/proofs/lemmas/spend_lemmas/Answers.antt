use Rattle.std.proofs.Common.{length, sym, ◌∙◌}
use Rattle.std.proofs.lemmas.Bool.{eq-eqb, ne_eqb}
use Rattle.pv_valid.specs.declared.fault.Kind.TheVariants as kind
use Rattle.pv_valid.specs.Walk.{budget_fault}
use Rattle.pv_judge.specs.Steps.{placed}
use Rattle.pv_judge.proofs.Finds.{finds-at, finds-as}
use Rattle.pv_judge.proofs.Spending.{budget-wrong, budget-lines}
use Rattle.pv_judge.proofs.lemmas.spend_lemmas.Goals as goal

pub returns-then-lines-budget : goal.returns-then-lines-budget
returns-then-lines-budget c =
    let f = c.args.formula.now in
    let log = c.args.log.now in
    finds-at (budget_fault c.args.budget f c.args.at log) c.fault_at.result c.args.at kind.WrongBudget c.fault_at.ensures
    (budget-wrong f log c.args.at c.args.budget (ne_eqb (length log) c.args.budget (λ e. c.if-lines-budget.true (c.lines.ensures ∙ e))))

pub returns : goal.returns
returns c =
    let f = c.args.formula.now in
    let log = c.args.log.now in
    finds-as (budget_fault c.args.budget f c.args.at log) (placed c.args.at c.in_ok-wrong.wrong) c.placed.result
    (budget-lines f log c.args.at c.args.budget (eq-eqb (length log) c.args.budget (sym c.lines.ensures ∙ c.if-lines-budget.false))
    ∙ c.in_ok-wrong.ensures.wrong c.args.at)
    c.placed.ensures
