use Rattle.std.proofs.Common.{◌≡◌, ◌≤◌, false, ℕ, List, length, take, refl, sym, ap, subst, ◌∙◌}
use Rattle.std.specs.List.{AllByRecursion}
use Rattle.pv_cnf.specs.Clause.{has_outside, IsClause}
use Rattle.pv_region.specs.Stored.{Stored, Passes, lemma_cost, used_of, all_lits, with_lemma}
use Rattle.pv_watch.specs.Trail.{Path}
use Rattle.pv_watch.specs.Propagating.{Propagating}
use Rattle.pv_watch.specs.Quiet.{IsQuiet}
use Rattle.pv_watch.specs.Watched.{IsReady}
use Rattle.pv_watch.specs.Turns.{SameText, HasUnset}
use Rattle.pv_solver.specs.States.{line_in}
use Rattle.pv_solver.proofs.Backs.{quiet-back}
use Rattle.pv_solver.proofs.Steps.{kept-quiet, lemma-in, next-clause, next-few, next-unset, learned, spent-region, decided}
use Rattle.pv_solver.proofs.search.Search.learn.Goals as goal

pub kept_starts-keep-requires : goal.kept_starts-keep-requires
kept_starts-keep-requires c =
    subst (λ (ls : List ℕ). has_outside c.trail.result.now.variables ls ≡ false) (sym c.as_slice.ensures.value)
    (subst (λ (v : ℕ). has_outside v c.args.self.now.draft.lits.items ≡ false)
    (c.trail.ensures.variables ∙ ap (λ (q : Path). q.variables) (sym c.trail.ensures.path)) c.requires.next.asserting.follows.inside)

pub undo_to-requires : goal.undo_to-requires
undo_to-requires c = subst (λ (q : Path). c.kept_starts-keep.result ≤ length q.starts) c.trail.ensures.path c.kept_starts-keep.ensures.bound

pub learn-requires-clause-ended : goal.learn-requires-clause-ended
learn-requires-clause-ended c = c.undo_to.ensures.ended (next-few c.args.self.now.propagator.stored.variables (all_lits c.args.self.now.propagator.stored) c.args.self.now.propagator.path
    (line_in c.args.self.now) c.kept_starts-keep.result c.requires.next
    (kept-quiet c.args.self.now.propagator.path c.trail.result.now c.as_slice.result.now c.args.self.now.draft.lits.items
    c.kept_starts-keep.result c.trail.ensures.path c.as_slice.ensures.value c.kept_starts-keep.ensures.quiet))

pub learn-requires-clause-valid : goal.learn-requires-clause-valid
learn-requires-clause-valid c =
    let s = c.args.self.now.propagator.stored in
    let here = next-clause s.variables (all_lits s) c.args.self.now.propagator.path (line_in c.args.self.now) c.requires.next
    c.requires.searching.1.ready.sound c.region-region.ensures.valid in
    subst (λ (ls : List ℕ). IsClause c.undo_to.new.propagator.stored.variables ls) (sym c.as_slice-2.ensures.value)
    (subst (λ (t : Stored). IsClause t.variables c.args.self.now.draft.lits.items) (sym c.undo_to.ensures.stored) here)

pub learn-requires-clause-unset : goal.learn-requires-clause-unset
learn-requires-clause-unset c =
    let s = c.args.self.now.propagator.stored in
    subst (HasUnset c.undo_to.new.propagator.path.falses) (sym c.as_slice-2.ensures.value)
    (next-unset s.variables (all_lits s) c.args.self.now.propagator.path c.undo_to.new.propagator.path (line_in c.args.self.now)
    c.kept_starts-keep.result c.requires.next c.undo_to.ensures.back (next-few c.args.self.now.propagator.stored.variables (all_lits c.args.self.now.propagator.stored) c.args.self.now.propagator.path
    (line_in c.args.self.now) c.kept_starts-keep.result c.requires.next
    (kept-quiet c.args.self.now.propagator.path c.trail.result.now c.as_slice.result.now c.args.self.now.draft.lits.items
    c.kept_starts-keep.result c.trail.ensures.path c.as_slice.ensures.value c.kept_starts-keep.ensures.quiet)))

pub learn-requires-clause-quiet : goal.learn-requires-clause-quiet
learn-requires-clause-quiet c =
    subst (λ (ls : List ℕ). AllByRecursion (λ (t : ℕ). IsQuiet (take t c.undo_to.new.propagator.path.falses) ls) c.undo_to.new.propagator.path.starts)
    (sym c.as_slice-2.ensures.value)
    (quiet-back c.kept_starts-keep.result c.args.self.now.propagator.path c.undo_to.new.propagator.path c.args.self.now.draft.lits.items
    c.undo_to.ensures.back (kept-quiet c.args.self.now.propagator.path c.trail.result.now c.as_slice.result.now c.args.self.now.draft.lits.items
    c.kept_starts-keep.result c.trail.ensures.path c.as_slice.ensures.value c.kept_starts-keep.ensures.quiet))

pub returns-in-Ok-clause-learned : goal.returns-in-Ok-clause-learned
returns-in-Ok-clause-learned c = λ p is.
    let old = c.args.self.now in
    let lemma = lemma-in p old is c.requires.next c.region-region.ensures.valid in
    let text = subst (λ (hs : List ℕ). SameText (with_lemma old.propagator.stored (record { lits = old.draft.lits.items; hints = hs }))
    c.learn.new.self.stored) c.as_slice-3.ensures.value
    (subst (λ (ls : List ℕ). SameText (with_lemma old.propagator.stored (record { lits = ls; hints = c.as_slice-3.result.now })) c.learn.new.self.stored)
    c.as_slice-2.ensures.value
    (subst (λ (s : Stored). SameText (with_lemma s (record { lits = c.as_slice-2.result.now; hints = c.as_slice-3.result.now })) c.learn.new.self.stored)
    c.undo_to.ensures.stored c.in-Ok.ensures.ok)) in
    let ready = c.in-Ok.ensures.ready (subst (λ (s : Stored). IsReady (all_lits s) c.undo_to.new.propagator.path) (sym c.undo_to.ensures.stored)
    (c.undo_to.ensures.back.ready (all_lits old.propagator.stored) is.ready)) in
    learned p old _ is lemma c.requires.left text (c.learn.ensures.extends.variables ∙ c.undo_to.ensures.back.variables) refl refl refl ready

pub returns-in-Err-clause-full : goal.returns-in-Err-clause-full
returns-in-Err-clause-full c = λ p is.
    let old = c.args.self.now in
    let lemma = lemma-in p old is c.requires.next c.region-region.ensures.valid in
    let fits = subst (λ (s : Stored). used_of s ≤ s.capacity) c.region-region.ensures.stored
    (subst (λ (n : ℕ). n ≤ c.region-region.result.now.capacity) c.used.ensures.value c.used.ensures.fits) in
    let passes = subst (λ (hs : List ℕ). Passes old.propagator.stored (lemma_cost (record { lits = old.draft.lits.items; hints = hs })) c.in-Err.full.need)
    c.as_slice-3.ensures.value
    (subst (λ (ls : List ℕ). Passes old.propagator.stored (lemma_cost (record { lits = ls; hints = c.as_slice-3.result.now })) c.in-Err.full.need)
    c.as_slice-2.ensures.value
    (subst (λ (s : Stored). Passes s (lemma_cost (record { lits = c.as_slice-2.result.now; hints = c.as_slice-3.result.now })) c.in-Err.full.need)
    c.undo_to.ensures.stored ((c.learn.ensures.full c.in-Err.full.need).0 c.in-Err.is))) in
    let stored = ap (λ (x : Propagating). x.stored) c.in-Err.ensures.err ∙ c.undo_to.ensures.stored in
    spent-region p old _ c.in-Err.full.need is (decided (line_in old) c.requires.next) c.requires.left lemma fits passes stored refl refl
