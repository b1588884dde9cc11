use Rattle.std.proofs.Common.{◌≡◌, ◌+◌, ◌-◌, ◌≤◌, ℕ, List, length, map, Some, slice_get, sym, ap, subst, ◌∙◌, arith}
use Rattle.pv_log.specs.declared.line.Line.{Line}
use Rattle.pv_region.specs.Stored.{Stored, all_hints}
use Rattle.pv_solver.specs.Answers.{Solving, lines_of}
use Rattle.pv_solver.proofs.Logs.{last-line, lemma-line, line-hints}
use Rattle.pv_solver.proofs.solver.SolverLogView.hints.Goals as goal

pub returns-then-n-lemmas : goal.returns-then-n-lemmas
returns-then-n-lemmas c =
    let i = c.self.inside in
    let high = subst (λ (s : Solving). c.args.n ≤ length (lines_of s.outcome)) (sym c.self.view_is) c.requires.to_last in
    let same = ap (λ (s : Stored). length s.lemmas) c.region-region.ensures.stored in
    subst (λ (s : Solving). slice_get (map (λ (line : Line). line.hints) (lines_of s.outcome)) (c.args.n - 1) ≡ Some i.last.hints) c.self.view_is
    (last-line (λ (line : Line). line.hints) i.search i.last i.found c.args.n (omega (arith, same, c.lemmas.ensures, c.if-n-lemmas.true)) high)
    ∙ ap (λ (ns : List ℕ). Some ns) (sym c.as_slice.ensures)

pub returns : goal.returns
returns c =
    let i = c.self.inside in
    let high = subst (λ (s : Solving). c.args.n ≤ length (lines_of s.outcome)) (sym c.self.view_is) c.requires.to_last in
    let same = ap (λ (s : Stored). length s.lemmas) c.region-region.ensures.stored in
    let few : c.args.n ≤ length i.search.propagator.stored.lemmas = omega (arith, same, c.lemmas.ensures, c.if-n-lemmas.false) in
    let there = subst (λ (s : Stored). slice_get (all_hints s) (length s.clauses + c.args.n - 1) ≡ Some c.hints.result.now) c.region-region.ensures.stored
    (subst (λ (k : ℕ). slice_get (all_hints c.region-region.result.now) (k + c.args.n - 1) ≡ Some c.hints.result.now) c.clauses.ensures c.hints.ensures) in
    subst (λ (s : Solving). slice_get (map (λ (line : Line). line.hints) (lines_of s.outcome)) (c.args.n - 1) ≡ Some c.hints.result.now) c.self.view_is
    (lemma-line (λ (line : Line). line.hints) i.search i.last i.found c.args.n c.requires.from_one few high
    ∙ line-hints i.search.propagator.stored c.args.n c.hints.result.now c.requires.from_one there)
