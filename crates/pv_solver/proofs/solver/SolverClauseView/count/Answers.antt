use Rattle.std.proofs.Common.{length, ap, subst, ◌∙◌}
use Rattle.pv_cnf.specs.Clause.{AreClauses}
use Rattle.pv_region.specs.Stored.{Stored}
use Rattle.pv_solver.specs.Answers.{Solving}
use Rattle.pv_solver.proofs.Logs.{front-valid}
use Rattle.pv_solver.proofs.solver.SolverClauseView.count.Goals as goal

pub returns-clause-count : goal.returns-clause-count
returns-clause-count c =
    c.clauses.ensures ∙ ap (λ (s : Stored). length s.clauses) c.region.ensures.stored ∙ ap (λ (s : Solving). length s.problem.clauses) c.self.view_is

pub returns-clause-valid : goal.returns-clause-valid
returns-clause-valid c =
    subst (λ (s : Solving). AreClauses s.problem.variables s.problem.clauses) c.self.view_is
    (front-valid c.self.inside.search.propagator.stored c.region.ensures.valid)
