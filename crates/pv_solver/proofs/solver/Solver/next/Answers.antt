use Rattle.std.proofs.Common.{sym, subst, ap, ◌∙◌}
use Rattle.std.specs.Prelude.{IsSome}
use Rattle.pv_solver.specs.Answers.{Solving, next_of}
use Rattle.pv_solver.proofs.Logs.{next-last}
use Rattle.pv_solver.proofs.solver.Solver.next.Goals as goal

pub returns : goal.returns
returns c =
    let i = c.self.inside in
    ap (λ (s : Solving). next_of s.outcome) (sym c.self.view_is)
    ∙ next-last i.search i.last i.found (subst (λ (s : Solving). IsSome (next_of s.outcome)) (sym c.self.view_is) c.requires)
