use Rattle.std.proofs.Common.{ℕ, set, ap, arith, slice_index}
use Rattle.pv_watch.proofs.Stepping.{entry-of, entry-follows, visited-of, stays-goes, stays-on, conflict-goes, conflict-stuck, moves-literal, moves-to_last, moves-free, moves-goes, moves-on}
use Rattle.pv_watch.proofs.turn.step.Goals as goal

pub place_of_other-requires-clause-small : goal.place_of_other-requires-clause-small
place_of_other-requires-clause-small c = (entry-of c.args.region.now c.args.trail.now c.args.slots.now c.args.walk.now c.args.watch c.requires.entry).small

pub place_of_other-requires-clause-slot : goal.place_of_other-requires-clause-slot
place_of_other-requires-clause-slot c = (entry-of c.args.region.now c.args.trail.now c.args.slots.now c.args.walk.now c.args.watch c.requires.entry).of_clause.slot

pub bounds-slots-place_of_other : goal.bounds-slots-place_of_other
bounds-slots-place_of_other c = omega (arith, c.place_of_other.ensures, (entry-of c.args.region.now c.args.trail.now c.args.slots.now c.args.walk.now c.args.watch c.requires.entry).there)

pub visit_entry-requires-clause-visited : goal.visit_entry-requires-clause-visited
visit_entry-requires-clause-visited c = visited-of c.args.region.now c.args.trail.now c.args.slots.now c.args.walk.now c.args.watch (slice_index c.args.slots.now c.place_of_other.result) c.requires.entry (ap (slice_index c.args.slots.now) c.place_of_other.ensures)

pub visit_entry-requires-clause-distinct : goal.visit_entry-requires-clause-distinct
visit_entry-requires-clause-distinct c = c.requires.entry.walks.keeps.distinct

pub returns-in-Stays-clause-goes : goal.returns-in-Stays-clause-goes
returns-in-Stays-clause-goes c = stays-goes c.args.region.now c.args.trail.now c.visit_entry.new.trail c.args.slots.now c.args.walk.now c.args.watch (slice_index c.args.slots.now c.place_of_other.result) c.requires.entry (ap (slice_index c.args.slots.now) c.place_of_other.ensures) c.requires.sound c.in-Stays.ensures.looks

pub returns-in-Stays-clause-on : goal.returns-in-Stays-clause-on
returns-in-Stays-clause-on c = λ _. stays-on c.args.region.now c.args.trail.now c.visit_entry.new.trail c.args.slots.now c.args.walk.now c.args.watch (slice_index c.args.slots.now c.place_of_other.result) c.requires.entry (ap (slice_index c.args.slots.now) c.place_of_other.ensures) c.requires.sound c.in-Stays.ensures.looks c.in-Stays.ensures.distinct

pub unwatch-requires-clause-literal : goal.unwatch-requires-clause-literal
unwatch-requires-clause-literal c = c.requires.entry.walks.inside

pub unwatch-requires-clause-follows : goal.unwatch-requires-clause-follows
unwatch-requires-clause-follows c = entry-follows c.args.region.now c.args.trail.now c.args.slots.now c.args.walk.now c.args.watch c.requires.entry

pub watch-requires-clause-literal : goal.watch-requires-clause-literal
watch-requires-clause-literal c = moves-literal c.args.region.now c.unwatch.new.self c.unwatch.new.self c.args.trail.now c.visit_entry.new.trail c.args.slots.now c.args.slots.now c.args.walk.now c.args.watch (slice_index c.args.slots.now c.place_of_other.result) c.in-Moves.lit c.requires.entry (ap (slice_index c.args.slots.now) c.place_of_other.ensures) c.unwatch.ensures.out c.unwatch.ensures.free c.in-Moves.ensures.looks

pub watch-requires-clause-from_one : goal.watch-requires-clause-from_one
watch-requires-clause-from_one c = (entry-of c.args.region.now c.args.trail.now c.args.slots.now c.args.walk.now c.args.watch c.requires.entry).from_one

pub watch-requires-clause-to_last : goal.watch-requires-clause-to_last
watch-requires-clause-to_last c = moves-to_last c.args.region.now c.unwatch.new.self c.unwatch.new.self c.args.trail.now c.visit_entry.new.trail c.args.slots.now c.args.slots.now c.args.walk.now c.args.watch (slice_index c.args.slots.now c.place_of_other.result) c.in-Moves.lit c.requires.entry (ap (slice_index c.args.slots.now) c.place_of_other.ensures) c.unwatch.ensures.out c.unwatch.ensures.free c.in-Moves.ensures.looks

pub watch-requires-clause-slot : goal.watch-requires-clause-slot
watch-requires-clause-slot c = (entry-of c.args.region.now c.args.trail.now c.args.slots.now c.args.walk.now c.args.watch c.requires.entry).of_clause.slot

pub watch-requires-clause-free : goal.watch-requires-clause-free
watch-requires-clause-free c = moves-free c.args.region.now c.unwatch.new.self c.unwatch.new.self c.args.trail.now c.visit_entry.new.trail c.args.slots.now c.args.slots.now c.args.walk.now c.args.watch (slice_index c.args.slots.now c.place_of_other.result) c.in-Moves.lit c.requires.entry (ap (slice_index c.args.slots.now) c.place_of_other.ensures) c.unwatch.ensures.out c.unwatch.ensures.free c.in-Moves.ensures.looks

pub place_of-requires-clause-small : goal.place_of-requires-clause-small
place_of-requires-clause-small c = (entry-of c.args.region.now c.args.trail.now c.args.slots.now c.args.walk.now c.args.watch c.requires.entry).small

pub place_of-requires-clause-slot : goal.place_of-requires-clause-slot
place_of-requires-clause-slot c = (entry-of c.args.region.now c.args.trail.now c.args.slots.now c.args.walk.now c.args.watch c.requires.entry).of_clause.slot

pub bounds-slots-place_of : goal.bounds-slots-place_of
bounds-slots-place_of c = omega (arith, c.place_of.ensures, (entry-of c.args.region.now c.args.trail.now c.args.slots.now c.args.walk.now c.args.watch c.requires.entry).here)

pub returns-in-Moves-clause-goes : goal.returns-in-Moves-clause-goes
returns-in-Moves-clause-goes c = moves-goes c.args.region.now c.unwatch.new.self c.watch.new.self c.args.trail.now c.visit_entry.new.trail c.args.slots.now (set c.args.slots.now c.place_of.result c.in-Moves.lit) c.args.walk.now c.args.watch (slice_index c.args.slots.now c.place_of_other.result) c.in-Moves.lit c.requires.entry (ap (slice_index c.args.slots.now) c.place_of_other.ensures) c.unwatch.ensures.out c.unwatch.ensures.free c.in-Moves.ensures.looks c.watch.ensures c.requires.sound

pub returns-in-Moves-clause-on : goal.returns-in-Moves-clause-on
returns-in-Moves-clause-on c = λ _. moves-on c.args.region.now c.unwatch.new.self c.watch.new.self c.args.trail.now c.visit_entry.new.trail c.args.slots.now (set c.args.slots.now c.place_of.result c.in-Moves.lit) c.args.walk.now c.args.watch (slice_index c.args.slots.now c.place_of_other.result) c.in-Moves.lit c.requires.entry (ap (slice_index c.args.slots.now) c.place_of_other.ensures) c.unwatch.ensures.out c.unwatch.ensures.free c.in-Moves.ensures.looks c.watch.ensures (ap (λ (i : ℕ). set c.args.slots.now i c.in-Moves.lit) c.place_of.ensures)

pub returns-in-Conflict-clause-goes : goal.returns-in-Conflict-clause-goes
returns-in-Conflict-clause-goes c = conflict-goes c.args.region.now c.args.trail.now c.visit_entry.new.trail c.args.slots.now c.args.walk.now c.args.watch (slice_index c.args.slots.now c.place_of_other.result) c.requires.entry (ap (slice_index c.args.slots.now) c.place_of_other.ensures) c.requires.sound c.in-Conflict.ensures.looks

pub returns-in-Conflict-clause-stuck : goal.returns-in-Conflict-clause-stuck
returns-in-Conflict-clause-stuck c = λ _. conflict-stuck c.args.region.now c.args.trail.now c.visit_entry.new.trail c.args.slots.now c.args.walk.now c.args.watch (slice_index c.args.slots.now c.place_of_other.result) c.requires.entry (ap (slice_index c.args.slots.now) c.place_of_other.ensures) c.requires.sound c.in-Conflict.ensures.looks
