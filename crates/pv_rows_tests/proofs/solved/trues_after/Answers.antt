use Rattle.std.proofs.Common.{◌≡◌, ◌∙◌, ℕ, ap, arith, Option, None, Some}
use Rattle.pv_solver.specs.declared.answer.Answer.{Answer}
use Rattle.pv_solver.specs.declared.answer.Answer.TheVariants.{Sat}
use Rattle.pv_solver.specs.Answers.{Outcome, Problem, answer_of, assigned_as, assigned_in}
use Rattle.pv_rows_tests.proofs.solved.trues_after.Goals as goal

all_assigned : (o : Option Outcome) (v : ℕ) → answer_of o ≡ Some Sat → assigned_in v o ≡ v
all_assigned None v e = absurd cc
all_assigned (Some found) v e = (let is : found.answer ≡ Sat = cc in ap (assigned_as v) is)

pub trues-requires : goal.trues-requires
trues-requires c =
    let s = c.solve.new.self in
    let all = all_assigned s.outcome s.problem.variables (c.solve.ensures.answered ∙ ap (λ (a : Answer). Some a) c.in-Sat.is) in
    let same = ap (λ (p : Problem). p.variables) c.solve.ensures.problem in
    omega (arith, all, same, c.variables-variables.ensures)
