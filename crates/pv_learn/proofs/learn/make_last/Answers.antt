use Rattle.std.proofs.Common.{◌≡◌, ◌+◌, ◌∙◌, ℕ, false, sym, ap, subst}
use Rattle.std.specs.Prelude.{vec_capacity}
use Rattle.pv_cnf.specs.Clause.{has_outside}
use Rattle.pv_region.specs.Stored.{count_of, all_lits}
use Rattle.pv_watch.specs.Trail.{Path, IsSound}
use Rattle.pv_watch.specs.Quiet.{IsConflict}
use Rattle.pv_learn.specs.Learning.{line_of, HasRoom}
use Rattle.pv_learn.proofs.Counts.{count-lits}
use Rattle.pv_learn.proofs.Rooms.{room-kept, room-on}
use Rattle.pv_learn.proofs.Wholes.{whole-last}
use Rattle.pv_learn.proofs.learn.make_last.Goals as goal

pub returns-then-is_last-clause-last : goal.returns-then-is_last-clause-last
returns-then-is_last-clause-last c = c.is_last.ensures.last c.if-is_last.true

pub take_whole-requires-clause-room : goal.take_whole-requires-clause-room
take_whole-requires-clause-room c =
    subst (λ (v : ℕ). HasRoom v (vec_capacity c.analyze.new.draft.lits) (vec_capacity c.analyze.new.draft.hints))
    (c.trail.ensures.variables ∙ ap (λ (q : Path). q.variables) (sym c.trail.ensures.path))
    (room-kept c.args.propagator.now.stored.variables c.args.draft.now c.analyze.new.draft c.requires.room c.analyze.ensures.room)

pub returns-clause-room : goal.returns-clause-room
returns-clause-room c = room-on c.args.draft.now c.analyze.new.draft c.take_whole.new.draft c.analyze.ensures.room c.take_whole.ensures.room

pub returns-clause-last : goal.returns-clause-last
returns-clause-last c =
    let s = c.args.propagator.now.stored in let path = c.trail.result.now in let e = c.trail.ensures.path in
    let inside = subst (λ (v : ℕ). has_outside v path.falses ≡ false) (ap (λ (q : Path). q.variables) e ∙ sym c.trail.ensures.variables)
    c.take_whole.ensures.inside in
    whole-last s.variables (all_lits s) path c.args.conflict
    (line_of (count_of s + 1) c.take_whole.new.draft.lits.items c.take_whole.new.draft.hints.items)
    (subst (IsSound (all_lits s)) (sym e) c.requires.sound)
    (subst (λ (q : Path). IsConflict (all_lits s) q.falses c.args.conflict) (sym e) c.requires.conflict)
    (ap (λ (q : Path). q.starts) e ∙ c.requires.undecided) c.take_whole.ensures.reasons inside c.take_whole.ensures.distinct
    (ap (λ (n : ℕ). n + 1) (sym (count-lits s))) c.take_whole.ensures.lits c.take_whole.ensures.hints
