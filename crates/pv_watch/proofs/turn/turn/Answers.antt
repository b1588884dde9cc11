use Rattle.std.proofs.Common.{◌∙◌, ℕ, List, refl, ap, subst, slice_index}
use Rattle.pv_region.specs.Stored.{list_of}
use Rattle.pv_watch.specs.Turns.{IsTurned, IsStuck}
use Rattle.pv_watch.proofs.Stepping.{goes-self}
use Rattle.pv_watch.proofs.Turning.{goes-on, begin-walk, turn-inside, at-entry, entry-linked, end-walk, walking-on, walking-falls}
use Rattle.pv_watch.proofs.turn.turn.Goals as goal

pub first_watch-next-requires : goal.first_watch-next-requires
first_watch-next-requires c = (turn-inside c.args.region.now c.args.trail.now c.args.slots.now c.args.place (slice_index c.falses.result.now c.args.place) c.requires.keeps (ap (λ (xs : List ℕ). slice_index xs c.args.place) c.falses.ensures.value) c.requires.there c.falses.ensures.inside)

pub entries-init : goal.entries-init
entries-init c = record { walking = record { left = list_of c.args.region.now (slice_index c.falses.result.now c.args.place); walks = begin-walk c.args.region.now c.args.trail.now c.args.slots.now c.args.place (slice_index c.falses.result.now c.args.place) c.requires.keeps (ap (λ (xs : List ℕ). slice_index xs c.args.place) c.falses.ensures.value) c.requires.there (turn-inside c.args.region.now c.args.trail.now c.args.slots.now c.args.place (slice_index c.falses.result.now c.args.place) c.requires.keeps (ap (λ (xs : List ℕ). slice_index xs c.args.place) c.falses.ensures.value) c.requires.there c.falses.ensures.inside) c.first_watch-next.ensures.few; next_is = c.first_watch-next.ensures.first }; goes = goes-self c.args.region.now c.args.trail.now c.requires.sound; place = refl; lit = refl }

pub next_watch-next-requires : goal.next_watch-next-requires
next_watch-next-requires c = entry-linked c.entries.region c.entries.trail c.entries.slots c.entries.walk c.in-Some.watch (at-entry c.entries.region c.entries.trail c.entries.slots c.entries.walk c.entries.next c.in-Some.watch c.entries.invariant.walking c.in-Some.is)

pub step-requires-clause-entry : goal.step-requires-clause-entry
step-requires-clause-entry c = at-entry c.entries.region c.entries.trail c.entries.slots c.entries.walk c.entries.next c.in-Some.watch c.entries.invariant.walking c.in-Some.is

pub step-requires-clause-sound : goal.step-requires-clause-sound
step-requires-clause-sound c = c.entries.invariant.goes.sound

pub entries-preserved : goal.entries-preserved
entries-preserved c = record { walking = walking-on c.entries.region c.step.new.region c.entries.trail c.step.new.trail c.entries.slots c.step.new.slots c.entries.walk c.step.new.walk c.entries.next c.next_watch-next.result c.in-Some.watch c.entries.invariant.walking c.in-Some.is (c.step.ensures.on c.if-not-step.false) c.next_watch-next.ensures; goes = goes-on c.args.region.now c.entries.region c.step.new.region c.args.trail.now c.entries.trail c.step.new.trail c.entries.invariant.goes c.step.ensures.goes; place = c.step.ensures.place ∙ c.entries.invariant.place; lit = c.step.ensures.lit ∙ c.entries.invariant.lit }

pub entries-smaller : goal.entries-smaller
entries-smaller c = walking-falls c.entries.region c.step.new.region c.entries.trail c.step.new.trail c.entries.slots c.step.new.slots c.entries.walk c.step.new.walk c.entries.next c.next_watch-next.result c.in-Some.watch c.entries.invariant.walking c.in-Some.is (c.step.ensures.on c.if-not-step.false)

pub returns-in-None-clause-goes : goal.returns-in-None-clause-goes
returns-in-None-clause-goes c = c.entries.invariant.goes

pub returns-in-None-clause-turned : goal.returns-in-None-clause-turned
returns-in-None-clause-turned c = subst (λ (p : ℕ). IsTurned c.entries.region c.entries.trail c.entries.slots p (slice_index c.args.trail.now.falses c.args.place)) c.entries.invariant.place (subst (IsTurned c.entries.region c.entries.trail c.entries.slots c.entries.walk.place) (c.entries.invariant.lit ∙ (ap (λ (xs : List ℕ). slice_index xs c.args.place) c.falses.ensures.value)) (end-walk c.entries.region c.entries.trail c.entries.slots c.entries.walk c.entries.next c.entries.invariant.walking c.in-None.is))

pub returns-then-not-step-clause-goes : goal.returns-then-not-step-clause-goes
returns-then-not-step-clause-goes c = goes-on c.args.region.now c.entries.region c.step.new.region c.args.trail.now c.entries.trail c.step.new.trail c.entries.invariant.goes c.step.ensures.goes

pub returns-then-not-step-clause-stuck : goal.returns-then-not-step-clause-stuck
returns-then-not-step-clause-stuck c = subst (λ (p : ℕ). IsStuck c.step.new.region c.step.new.trail c.step.new.slots p c.in-Some.watch.id) c.entries.invariant.place (c.step.ensures.stuck c.if-not-step.true)
