use Rattle.std.proofs.Common.{◌≤◌, ◌*◌, ◌+◌, ◌∙◌, sym, ap, subst}
use Rattle.pv_log.specs.Propagation.{is_false}
use Rattle.pv_watch.specs.Trail.{Path}
use Rattle.pv_solver.specs.Answers.{Solving, assigned_of, truth_of, values_of}
use Rattle.pv_solver.proofs.Saying.{value-is}
use Rattle.pv_solver.proofs.solver.SolverValues.value.Goals as goal

pub returns : goal.returns
returns c =
    let i = c.self.inside in
    let to_last = subst (λ (s : Solving). c.args.v ≤ assigned_of s) (sym c.self.view_is) c.requires.to_last in
    c.is_false.ensures ∙ ap (λ (p : Path). is_false p.falses (2 * c.args.v + 1)) c.trail.ensures.path
    ∙ value-is i.search i.last i.found c.args.v (sym c.trail.ensures.variables) c.requires.from_one to_last
    ∙ ap (λ (s : Solving). truth_of (values_of s.outcome) c.args.v) c.self.view_is
