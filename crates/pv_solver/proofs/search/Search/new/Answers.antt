use Rattle.std.proofs.Common.{◌≤◌, ℕ, ap, sym, subst, ◌∙◌}
use Rattle.std.specs.Prelude.{vec_capacity}
use Rattle.pv_region.specs.Stored.{Stored, used_of}
use Rattle.pv_watch.specs.Trail.{Path}
use Rattle.pv_learn.specs.Learning.{HasRoom}
use Rattle.pv_solver.proofs.Endings.{fresh-made, problem-made, words-made, variables-made, err-as}
use Rattle.pv_solver.proofs.search.Search.new.Goals as goal

pub returns-in-Err-clause-full : goal.returns-in-Err-clause-full
returns-in-Err-clause-full c = λ need is. (c.in-Err.ensures.full need).0 (err-as _ _ is)

pub returns-clause-fresh : goal.returns-clause-fresh
returns-clause-fresh c =
    fresh-made _ c.args.variables c.args.words c.args.lemmas c.in-Ok.ensures.stored c.in-Ok.ensures.falses c.in-Ok.ensures.starts
    c.trail.ensures.variables (c.in_ok-checker.ensures ∙ c.variables-count.ensures.value ∙ ap (λ (q : Path). q.variables) c.trail.ensures.path)
    (subst (λ (v : ℕ). HasRoom v (vec_capacity c.in_ok-draft.draft.lits) (vec_capacity c.in_ok-draft.draft.hints))
    (c.variables-count.ensures.value ∙ ap (λ (q : Path). q.variables) c.trail.ensures.path) c.in_ok-draft.ensures)

pub returns-clause-problem : goal.returns-clause-problem
returns-clause-problem c = problem-made c.in-Ok.propagator.stored c.args.variables c.args.words c.args.lemmas c.in-Ok.ensures.stored

pub returns-clause-fits : goal.returns-clause-fits
returns-clause-fits c =
    words-made c.in-Ok.propagator.stored c.args.variables c.args.words c.in-Ok.ensures.stored
    (subst (λ (s : Stored). used_of s ≤ s.capacity) c.region.ensures.stored
    (subst (λ (n : ℕ). n ≤ c.region.result.now.capacity) c.used.ensures.value c.used.ensures.fits))

pub returns-clause-small : goal.returns-clause-small
returns-clause-small c = variables-made c.in-Ok.propagator.stored c.args.variables c.args.words c.in-Ok.ensures.stored c.variables-count.result
    (c.variables-count.ensures.value ∙ ap (λ (q : Path). q.variables) c.trail.ensures.path ∙ sym c.trail.ensures.variables) c.variables-count.ensures.small
