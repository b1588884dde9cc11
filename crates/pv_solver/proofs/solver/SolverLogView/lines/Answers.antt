use Rattle.std.proofs.Common.{length, Option, sym, ap, ◌∙◌, arith}
use Rattle.pv_solver.specs.declared.answer.Answer.{Answer}
use Rattle.pv_region.specs.Stored.{Stored}
use Rattle.pv_solver.specs.Answers.{Solving, lines_of}
use Rattle.pv_solver.specs.States.{outcome_in}
use Rattle.pv_solver.proofs.Logs.{log-size}
use Rattle.pv_solver.proofs.solver.SolverLogView.lines.Goals as goal

pub returns-in-Some : goal.returns-in-Some
returns-in-Some c =
    let i = c.self.inside in
    let size = log-size i.search i.last c.in-Some.answer in
    let found = ap (λ (f : Option Answer). length (lines_of (outcome_in i.search i.last f))) c.in-Some.is in
    let seen = ap (λ (s : Solving). length (lines_of s.outcome)) c.self.view_is in
    let same = ap (λ (s : Stored). length s.lemmas) c.region.ensures.stored in
    omega (arith, size, found, seen, same, c.lemmas-lemmas.ensures, c.extra.ensures)

pub returns-in-None : goal.returns-in-None
returns-in-None c =
    let i = c.self.inside in
    sym (ap (λ (f : Option Answer). length (lines_of (outcome_in i.search i.last f))) c.in-None.is)
    ∙ ap (λ (s : Solving). length (lines_of s.outcome)) c.self.view_is
