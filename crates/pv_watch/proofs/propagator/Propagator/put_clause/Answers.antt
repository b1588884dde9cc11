use Rattle.std.proofs.Common.{◌∙◌, ◌+◌, ◌*◌, ◌≤◌, ℕ, List, length, set, refl, sym, ap, subst, arith, slice_index}
use Rattle.std.specs.Vec.{with_items}
use Rattle.std.proofs.lemmas.Grind.{common_steps}
use Rattle.std.proofs.lemmas.List.{with_items_is}
use Rattle.pv_cnf.specs.Clause.{IsClause}
use Rattle.pv_region.specs.Stored.{Stored, clause_cost, with_clause}
use Rattle.pv_watch.specs.Watched.{Keeps}
use Rattle.pv_watch.specs.Propagating.{Propagating}
use Rattle.pv_watch.proofs.Attaching.{keeps-short}
use Rattle.pv_watch.proofs.Joining.{passes-seen, more-clause, can-early, can-at, text-attached, attach-to_last, attach-small, attach-room, attach-first, attach-second, attach-free, attach-keeps}
use Rattle.pv_watch.proofs.propagator.Propagator.put_clause.Goals as goal

pub invariant_of-self : goal.invariant_of-self
invariant_of-self c = subst (λ (s : Stored). Keeps s c.self.inside.trail c.self.inside.slots.items c.self.inside.done) (sym c.in-Err.ensures.err) c.self.invariant

pub returns-in-Err-clause-full : goal.returns-in-Err-clause-full
returns-in-Err-clause-full c = λ need. passes-seen _ c.self.inside.region c.args.self.now.stored (clause_cost c.args.lits.now) need (ap (λ (p : Propagating). p.stored) c.self.view_is) (c.in-Err.ensures.full need)

pub returns-in-Err-clause-err : goal.returns-in-Err-clause-err
returns-in-Err-clause-err c = ap (λ (s : Stored). record { stored = s; path = c.self.inside.trail; done = c.self.inside.done }) c.in-Err.ensures.err ∙ c.self.view_is

pub invariant_of-self-then-lits-lt2 : goal.invariant_of-self-then-lits-lt2
invariant_of-self-then-lits-lt2 c = keeps-short c.self.inside.region c.put_clause.new.self c.self.inside.trail c.self.inside.slots.items c.self.inside.done c.args.lits.now c.self.invariant (more-clause c.self.inside.region c.put_clause.new.self c.args.lits.now (ap (λ (p : Propagating). p.stored.lemmas) c.self.view_is ∙ c.requires.lemmas) c.in-Ok.ensures.ok (subst (λ (n : ℕ). n ≤ c.put_clause.new.self.capacity) c.used.ensures.value c.used.ensures.fits)) (subst (λ (p : Propagating). IsClause p.stored.variables c.args.lits.now) (sym c.self.view_is) c.requires.valid) (omega (arith, c.if-lits-lt2.true))

pub attach-requires-clause-from_one : goal.attach-requires-clause-from_one
attach-requires-clause-from_one c = omega (arith, c.in-Ok.ensures.id)

pub attach-requires-clause-to_last : goal.attach-requires-clause-to_last
attach-requires-clause-to_last c = attach-to_last c.self.inside.region c.put_clause.new.self c.self.inside.trail c.self.inside.slots.items c.self.inside.done c.args.lits.now c.self.invariant (more-clause c.self.inside.region c.put_clause.new.self c.args.lits.now (ap (λ (p : Propagating). p.stored.lemmas) c.self.view_is ∙ c.requires.lemmas) c.in-Ok.ensures.ok (subst (λ (n : ℕ). n ≤ c.put_clause.new.self.capacity) c.used.ensures.value c.used.ensures.fits)) (subst (λ (p : Propagating). IsClause p.stored.variables c.args.lits.now) (sym c.self.view_is) c.requires.valid) c.in-Ok.id (slice_index c.args.lits.now 0) (slice_index c.args.lits.now 1) c.in-Ok.ensures.id (can-at c.self.inside.trail c.self.inside.done c.args.lits.now (slice_index c.args.lits.now 0) (slice_index c.args.lits.now 1) refl refl (can-early c.self.inside.trail c.self.inside.done c.args.lits.now c.self.invariant.within (ap (λ (p : Propagating). p.path.falses) c.self.view_is ∙ c.requires.early) (subst (λ (p : Propagating). IsClause p.stored.variables c.args.lits.now) (sym c.self.view_is) c.requires.valid).distinct c.if-lits-lt2.false))

pub attach-requires-clause-small : goal.attach-requires-clause-small
attach-requires-clause-small c = attach-small c.self.inside.region c.put_clause.new.self c.self.inside.trail c.self.inside.slots.items c.self.inside.done c.args.lits.now c.self.invariant (more-clause c.self.inside.region c.put_clause.new.self c.args.lits.now (ap (λ (p : Propagating). p.stored.lemmas) c.self.view_is ∙ c.requires.lemmas) c.in-Ok.ensures.ok (subst (λ (n : ℕ). n ≤ c.put_clause.new.self.capacity) c.used.ensures.value c.used.ensures.fits)) (subst (λ (p : Propagating). IsClause p.stored.variables c.args.lits.now) (sym c.self.view_is) c.requires.valid) c.in-Ok.id (slice_index c.args.lits.now 0) (slice_index c.args.lits.now 1) c.in-Ok.ensures.id (can-at c.self.inside.trail c.self.inside.done c.args.lits.now (slice_index c.args.lits.now 0) (slice_index c.args.lits.now 1) refl refl (can-early c.self.inside.trail c.self.inside.done c.args.lits.now c.self.invariant.within (ap (λ (p : Propagating). p.path.falses) c.self.view_is ∙ c.requires.early) (subst (λ (p : Propagating). IsClause p.stored.variables c.args.lits.now) (sym c.self.view_is) c.requires.valid).distinct c.if-lits-lt2.false))

pub attach-requires-clause-first : goal.attach-requires-clause-first
attach-requires-clause-first c = attach-first c.self.inside.region c.put_clause.new.self c.self.inside.trail c.self.inside.slots.items c.self.inside.done c.args.lits.now c.self.invariant (more-clause c.self.inside.region c.put_clause.new.self c.args.lits.now (ap (λ (p : Propagating). p.stored.lemmas) c.self.view_is ∙ c.requires.lemmas) c.in-Ok.ensures.ok (subst (λ (n : ℕ). n ≤ c.put_clause.new.self.capacity) c.used.ensures.value c.used.ensures.fits)) (subst (λ (p : Propagating). IsClause p.stored.variables c.args.lits.now) (sym c.self.view_is) c.requires.valid) c.in-Ok.id (slice_index c.args.lits.now 0) (slice_index c.args.lits.now 1) c.in-Ok.ensures.id (can-at c.self.inside.trail c.self.inside.done c.args.lits.now (slice_index c.args.lits.now 0) (slice_index c.args.lits.now 1) refl refl (can-early c.self.inside.trail c.self.inside.done c.args.lits.now c.self.invariant.within (ap (λ (p : Propagating). p.path.falses) c.self.view_is ∙ c.requires.early) (subst (λ (p : Propagating). IsClause p.stored.variables c.args.lits.now) (sym c.self.view_is) c.requires.valid).distinct c.if-lits-lt2.false))

pub attach-requires-clause-second : goal.attach-requires-clause-second
attach-requires-clause-second c = attach-second c.self.inside.region c.put_clause.new.self c.self.inside.trail c.self.inside.slots.items c.self.inside.done c.args.lits.now c.self.invariant (more-clause c.self.inside.region c.put_clause.new.self c.args.lits.now (ap (λ (p : Propagating). p.stored.lemmas) c.self.view_is ∙ c.requires.lemmas) c.in-Ok.ensures.ok (subst (λ (n : ℕ). n ≤ c.put_clause.new.self.capacity) c.used.ensures.value c.used.ensures.fits)) (subst (λ (p : Propagating). IsClause p.stored.variables c.args.lits.now) (sym c.self.view_is) c.requires.valid) c.in-Ok.id (slice_index c.args.lits.now 0) (slice_index c.args.lits.now 1) c.in-Ok.ensures.id (can-at c.self.inside.trail c.self.inside.done c.args.lits.now (slice_index c.args.lits.now 0) (slice_index c.args.lits.now 1) refl refl (can-early c.self.inside.trail c.self.inside.done c.args.lits.now c.self.invariant.within (ap (λ (p : Propagating). p.path.falses) c.self.view_is ∙ c.requires.early) (subst (λ (p : Propagating). IsClause p.stored.variables c.args.lits.now) (sym c.self.view_is) c.requires.valid).distinct c.if-lits-lt2.false))

pub attach-requires-clause-room : goal.attach-requires-clause-room
attach-requires-clause-room c = let room = attach-room c.self.inside.region c.put_clause.new.self c.self.inside.trail c.self.inside.slots.items c.self.inside.done c.args.lits.now c.self.invariant (more-clause c.self.inside.region c.put_clause.new.self c.args.lits.now (ap (λ (p : Propagating). p.stored.lemmas) c.self.view_is ∙ c.requires.lemmas) c.in-Ok.ensures.ok (subst (λ (n : ℕ). n ≤ c.put_clause.new.self.capacity) c.used.ensures.value c.used.ensures.fits)) (subst (λ (p : Propagating). IsClause p.stored.variables c.args.lits.now) (sym c.self.view_is) c.requires.valid) c.in-Ok.id (slice_index c.args.lits.now 0) (slice_index c.args.lits.now 1) c.in-Ok.ensures.id (can-at c.self.inside.trail c.self.inside.done c.args.lits.now (slice_index c.args.lits.now 0) (slice_index c.args.lits.now 1) refl refl (can-early c.self.inside.trail c.self.inside.done c.args.lits.now c.self.invariant.within (ap (λ (p : Propagating). p.path.falses) c.self.view_is ∙ c.requires.early) (subst (λ (p : Propagating). IsClause p.stored.variables c.args.lits.now) (sym c.self.view_is) c.requires.valid).distinct c.if-lits-lt2.false)) in omega (arith, room, ap (λ (xs : List ℕ). length xs) c.deref_mut.ensures.value)

pub attach-requires-clause-free : goal.attach-requires-clause-free
attach-requires-clause-free c = attach-free c.self.inside.region c.put_clause.new.self c.self.inside.trail c.self.inside.slots.items c.self.inside.done c.args.lits.now c.self.invariant (more-clause c.self.inside.region c.put_clause.new.self c.args.lits.now (ap (λ (p : Propagating). p.stored.lemmas) c.self.view_is ∙ c.requires.lemmas) c.in-Ok.ensures.ok (subst (λ (n : ℕ). n ≤ c.put_clause.new.self.capacity) c.used.ensures.value c.used.ensures.fits)) (subst (λ (p : Propagating). IsClause p.stored.variables c.args.lits.now) (sym c.self.view_is) c.requires.valid) c.in-Ok.id (slice_index c.args.lits.now 0) (slice_index c.args.lits.now 1) c.in-Ok.ensures.id (can-at c.self.inside.trail c.self.inside.done c.args.lits.now (slice_index c.args.lits.now 0) (slice_index c.args.lits.now 1) refl refl (can-early c.self.inside.trail c.self.inside.done c.args.lits.now c.self.invariant.within (ap (λ (p : Propagating). p.path.falses) c.self.view_is ∙ c.requires.early) (subst (λ (p : Propagating). IsClause p.stored.variables c.args.lits.now) (sym c.self.view_is) c.requires.valid).distinct c.if-lits-lt2.false))

pub attach-requires-clause-differ : goal.attach-requires-clause-differ
attach-requires-clause-differ c = (can-at c.self.inside.trail c.self.inside.done c.args.lits.now (slice_index c.args.lits.now 0) (slice_index c.args.lits.now 1) refl refl (can-early c.self.inside.trail c.self.inside.done c.args.lits.now c.self.invariant.within (ap (λ (p : Propagating). p.path.falses) c.self.view_is ∙ c.requires.early) (subst (λ (p : Propagating). IsClause p.stored.variables c.args.lits.now) (sym c.self.view_is) c.requires.valid).distinct c.if-lits-lt2.false)).differ

pub invariant_of-self-2 : goal.invariant_of-self-2
invariant_of-self-2 c = attach-keeps c.self.inside.region c.put_clause.new.self c.self.inside.trail c.self.inside.slots.items c.self.inside.done c.args.lits.now c.self.invariant (more-clause c.self.inside.region c.put_clause.new.self c.args.lits.now (ap (λ (p : Propagating). p.stored.lemmas) c.self.view_is ∙ c.requires.lemmas) c.in-Ok.ensures.ok (subst (λ (n : ℕ). n ≤ c.put_clause.new.self.capacity) c.used.ensures.value c.used.ensures.fits)) (subst (λ (p : Propagating). IsClause p.stored.variables c.args.lits.now) (sym c.self.view_is) c.requires.valid) c.in-Ok.id (slice_index c.args.lits.now 0) (slice_index c.args.lits.now 1) c.in-Ok.ensures.id (can-at c.self.inside.trail c.self.inside.done c.args.lits.now (slice_index c.args.lits.now 0) (slice_index c.args.lits.now 1) refl refl (can-early c.self.inside.trail c.self.inside.done c.args.lits.now c.self.invariant.within (ap (λ (p : Propagating). p.path.falses) c.self.view_is ∙ c.requires.early) (subst (λ (p : Propagating). IsClause p.stored.variables c.args.lits.now) (sym c.self.view_is) c.requires.valid).distinct c.if-lits-lt2.false)) c.attach.new.region (with_items c.self.inside.slots c.attach.new.slots).items c.attach.ensures.stored (with_items_is c.self.inside.slots c.attach.new.slots (grind (arith, common_steps, c.attach.auto.slots, c.deref_mut.ensures.len)) ∙ c.attach.ensures.slots ∙ ap (λ (xs : List ℕ). set (set xs (2 * c.in-Ok.id) (slice_index c.args.lits.now 0)) (2 * c.in-Ok.id + 1) (slice_index c.args.lits.now 1)) c.deref_mut.ensures.value)

pub returns-clause-ok : goal.returns-clause-ok
returns-clause-ok c = text-attached (with_clause c.args.self.now.stored c.args.lits.now) c.put_clause.new.self c.attach.new.region c.in-Ok.id (slice_index c.args.lits.now 0) (slice_index c.args.lits.now 1) (c.in-Ok.ensures.ok ∙ ap (λ (s : Stored). with_clause s c.args.lits.now) (ap (λ (p : Propagating). p.stored) c.self.view_is)) c.attach.ensures.stored
