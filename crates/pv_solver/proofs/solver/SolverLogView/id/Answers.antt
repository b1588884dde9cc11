use Rattle.std.proofs.Common.{◌≡◌, ◌+◌, ◌-◌, ◌≤◌, ℕ, length, map, Some, slice_get, sym, ap, subst, ◌∙◌, arith}
use Rattle.pv_log.specs.declared.line.Line.{Line}
use Rattle.pv_region.specs.Stored.{Stored}
use Rattle.pv_solver.specs.Answers.{Solving, lines_of}
use Rattle.pv_solver.proofs.Logs.{last-line, lemma-line, line-id}
use Rattle.pv_solver.proofs.solver.SolverLogView.id.Goals as goal

pub returns-then-n-lemmas : goal.returns-then-n-lemmas
returns-then-n-lemmas c =
    let i = c.self.inside in
    let high = subst (λ (s : Solving). c.args.n ≤ length (lines_of s.outcome)) (sym c.self.view_is) c.requires.to_last in
    let same = ap (λ (s : Stored). length s.lemmas) c.region-region.ensures.stored in
    subst (λ (s : Solving). slice_get (map (λ (line : Line). line.id) (lines_of s.outcome)) (c.args.n - 1) ≡ Some i.last.id) c.self.view_is
    (last-line (λ (line : Line). line.id) i.search i.last i.found c.args.n (omega (arith, same, c.lemmas.ensures, c.if-n-lemmas.true)) high)

pub returns : goal.returns
returns c =
    let i = c.self.inside in
    let high = subst (λ (s : Solving). c.args.n ≤ length (lines_of s.outcome)) (sym c.self.view_is) c.requires.to_last in
    let same = ap (λ (s : Stored). length s.lemmas) c.region-region.ensures.stored in
    let few : c.args.n ≤ length i.search.propagator.stored.lemmas = omega (arith, same, c.lemmas.ensures, c.if-n-lemmas.false) in
    subst (λ (s : Solving). slice_get (map (λ (line : Line). line.id) (lines_of s.outcome)) (c.args.n - 1) ≡ Some (c.clauses.result + c.args.n)) c.self.view_is
    (lemma-line (λ (line : Line). line.id) i.search i.last i.found c.args.n c.requires.from_one few high
    ∙ line-id i.search.propagator.stored c.args.n c.requires.from_one few
    ∙ ap (λ (k : ℕ). Some k) (omega (arith, c.clauses.ensures, ap (λ (s : Stored). length s.clauses) c.region-region.ensures.stored)))
