use Rattle.std.proofs.Common.{ℕ, length, refl, sym, ap, subst, ◌∙◌, arith}
use Rattle.std.proofs.lemmas.Bool.{eqb-true}
use Rattle.std.specs.Prelude.{vec_capacity}
use Rattle.pv_region.specs.Stored.{Stored}
use Rattle.pv_watch.specs.Trail.{Path}
use Rattle.pv_learn.specs.Learning.{HasRoom}
use Rattle.pv_learn.proofs.ForCallers.{no-lits}
use Rattle.pv_solver.proofs.Steps.{some-starts, spent-lemmas, after-lemma}
use Rattle.pv_solver.proofs.search.Search.turn.Goals as goal

pub refute-requires-clause-under_way : goal.refute-requires-clause-under_way
refute-requires-clause-under_way c = (c.requires.searching.0, c.requires.searching.1.under_way)

pub refute-requires-clause-undecided : goal.refute-requires-clause-undecided
refute-requires-clause-undecided c =
    sym (c.starts.ensures.value ∙ ap (λ (q : Path). q.starts) c.trail.ensures.path) ∙ no-lits c.starts.result.now (eqb-true (length c.starts.result.now) 0 (sym c.is_empty.ensures ∙ c.if-is_empty.true))

pub refute-requires-clause-sound : goal.refute-requires-clause-sound
refute-requires-clause-sound c = c.requires.searching.1.ready.sound

pub returns-then-is_empty : goal.returns-then-is_empty
returns-then-is_empty c = λ p s. c.refute.ensures p s.under_way

pub returns-then-lemmas-self : goal.returns-then-lemmas-self
returns-then-lemmas-self c = λ p s.
    spent-lemmas p c.args.self.now s (some-starts c.starts.result.now c.args.self.now.propagator.path.starts
    (c.starts.ensures.value ∙ ap (λ (q : Path). q.starts) c.trail.ensures.path) (sym c.is_empty.ensures ∙ c.if-is_empty.false))
    (ap (λ (t : Stored). length t.lemmas) (sym c.region.ensures.stored) ∙ sym c.lemmas.ensures ∙ c.if-lemmas-self.true)

pub make_lemma-requires-clause-checker : goal.make_lemma-requires-clause-checker
make_lemma-requires-clause-checker c = let u = c.requires.searching.1.under_way in u.checker ∙ sym u.is_of.variables

pub make_lemma-requires-clause-decided : goal.make_lemma-requires-clause-decided
make_lemma-requires-clause-decided c =
    some-starts c.starts.result.now c.args.self.now.propagator.path.starts
    (c.starts.ensures.value ∙ ap (λ (q : Path). q.starts) c.trail.ensures.path) (sym c.is_empty.ensures ∙ c.if-is_empty.false)

pub make_lemma-requires-clause-sound : goal.make_lemma-requires-clause-sound
make_lemma-requires-clause-sound c = c.requires.searching.1.ready.sound

pub make_lemma-requires-clause-room : goal.make_lemma-requires-clause-room
make_lemma-requires-clause-room c =
    let u = c.requires.searching.1.under_way in subst (λ (v : ℕ). HasRoom v (vec_capacity c.args.self.now.draft.lits) (vec_capacity c.args.self.now.draft.hints))
    (sym u.is_of.variables) u.room

pub learn-requires-clause-searching : goal.learn-requires-clause-searching
learn-requires-clause-searching c =
    (c.requires.searching.0, after-lemma c.requires.searching.0 c.args.self.now _ c.requires.searching.1 refl c.make_lemma.ensures.checker refl c.make_lemma.ensures.room)

pub learn-requires-clause-left : goal.learn-requires-clause-left
learn-requires-clause-left c =
    let u = c.requires.searching.1.under_way in
    let same = ap (λ (t : Stored). length t.lemmas) c.region.ensures.stored in
    omega (arith, same, c.lemmas.ensures, c.if-lemmas-self.false, u.few, u.is_of.lemmas)

pub returns-in-None : goal.returns-in-None
returns-in-None c = λ p s.
    let h = c.in-None.ensures.learned p (after-lemma p c.args.self.now _ s refl c.make_lemma.ensures.checker refl c.make_lemma.ensures.room) in
    record { searching = h.searching; one_more = h.one_more }

pub returns-in-Some : goal.returns-in-Some
returns-in-Some c = λ p s.
    c.in-Some.ensures.full p (after-lemma p c.args.self.now _ s refl c.make_lemma.ensures.checker refl c.make_lemma.ensures.room)
