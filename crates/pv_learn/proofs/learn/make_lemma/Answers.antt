use Rattle.std.proofs.Common.{◌≡◌, ◌+◌, ◌∙◌, ℕ, false, sym, ap, subst, arith}
use Rattle.std.specs.Prelude.{vec_capacity}
use Rattle.pv_cnf.specs.Clause.{has_outside}
use Rattle.pv_region.specs.Stored.{count_of, all_lits}
use Rattle.pv_watch.specs.Trail.{Path, LastIs, IsSound}
use Rattle.pv_watch.specs.Quiet.{IsConflict}
use Rattle.pv_learn.specs.Learning.{line_of, HasRoom, IsNext}
use Rattle.pv_learn.proofs.Counts.{count-lits}
use Rattle.pv_learn.proofs.Rooms.{room-kept, room-on}
use Rattle.pv_learn.proofs.Wholes.{whole-next}
use Rattle.pv_learn.proofs.learn.make_lemma.Goals as goal

pub returns-then-is_asserting-clause-next : goal.returns-then-is_asserting-clause-next
returns-then-is_asserting-clause-next c = record {
  start = c.last_start-start.result;
  last = subst (λ (q : Path). LastIs q.starts c.last_start-start.result) c.trail-trail.ensures.path c.last_start-start.ensures.last;
  asserting = c.is_asserting.ensures.asserting c.if-is_asserting.true;
}

pub take_whole-requires-clause-from : goal.take_whole-requires-clause-from
take_whole-requires-clause-from c = omega (arith, c.last_start-start.ensures.bound)

pub take_whole-requires-clause-room : goal.take_whole-requires-clause-room
take_whole-requires-clause-room c =
    subst (λ (v : ℕ). HasRoom v (vec_capacity c.analyze.new.draft.lits) (vec_capacity c.analyze.new.draft.hints))
    (c.trail-trail.ensures.variables ∙ ap (λ (q : Path). q.variables) (sym c.trail-trail.ensures.path))
    (room-kept c.args.propagator.now.stored.variables c.args.draft.now c.analyze.new.draft c.requires.room c.analyze.ensures.room)

pub returns-clause-room : goal.returns-clause-room
returns-clause-room c = room-on c.args.draft.now c.analyze.new.draft c.take_whole.new.draft c.analyze.ensures.room c.take_whole.ensures.room

pub returns-clause-next : goal.returns-clause-next
returns-clause-next c =
    let s = c.args.propagator.now.stored in let path = c.trail-trail.result.now in let e = c.trail-trail.ensures.path in
    let inside = subst (λ (v : ℕ). has_outside v path.falses ≡ false) (ap (λ (q : Path). q.variables) e ∙ sym c.trail-trail.ensures.variables)
    c.take_whole.ensures.inside in
    subst (λ (q : Path). IsNext s.variables (all_lits s) q (line_of (count_of s + 1) c.take_whole.new.draft.lits.items c.take_whole.new.draft.hints.items)) e
    (whole-next s.variables (all_lits s) path c.last_start-start.result c.args.conflict
    (line_of (count_of s + 1) c.take_whole.new.draft.lits.items c.take_whole.new.draft.hints.items)
    (subst (IsSound (all_lits s)) (sym e) c.requires.sound)
    (subst (λ (q : Path). IsConflict (all_lits s) q.falses c.args.conflict) (sym e) c.requires.conflict)
    c.last_start-start.ensures.rise c.last_start-start.ensures.last c.last_start-start.ensures.bound c.last_start-start.ensures.alone
    c.take_whole.ensures.reasons inside c.take_whole.ensures.distinct
    (ap (λ (n : ℕ). n + 1) (sym (count-lits s))) c.take_whole.ensures.lits c.take_whole.ensures.hints)
