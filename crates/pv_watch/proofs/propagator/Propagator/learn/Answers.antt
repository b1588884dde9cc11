use Rattle.std.proofs.Common.{◌∙◌, ◌+◌, ◌*◌, ◌≤◌, ℕ, List, length, set, take, sym, ap, subst, arith}
use Rattle.std.specs.List.{AllByRecursion}
use Rattle.std.specs.Vec.{with_items}
use Rattle.std.proofs.lemmas.Grind.{common_steps}
use Rattle.std.proofs.lemmas.List.{with_items_is}
use Rattle.pv_cnf.specs.Clause.{IsClause}
use Rattle.pv_region.specs.Stored.{Stored, lemma_cost, all_lits, with_lemma}
use Rattle.pv_watch.specs.Trail.{Extends}
use Rattle.pv_watch.specs.Quiet.{IsQuiet}
use Rattle.pv_watch.specs.Watched.{IsReady}
use Rattle.pv_watch.specs.Turns.{HasUnset, CanAttach}
use Rattle.pv_watch.specs.Propagating.{Propagating}
use Rattle.pv_watch.proofs.Guards.{keeps-extended}
use Rattle.pv_watch.proofs.Looking.{extends-self}
use Rattle.pv_watch.proofs.Attaching.{keeps-short}
use Rattle.pv_watch.proofs.Joining.{passes-seen, more-lemma, text-same, text-attached, attach-to_last, attach-small, attach-room, attach-first, attach-second, attach-free, attach-long, attach-keeps}
use Rattle.pv_watch.proofs.Entering.{ready-entered}
use Rattle.pv_watch.proofs.propagator.Propagator.learn.Goals as goal

pub returns-in-Err-clause-extends : goal.returns-in-Err-clause-extends
returns-in-Err-clause-extends c = subst (λ (p : Propagating). Extends p.path c.self.inside.trail) c.self.view_is (extends-self c.self.inside.trail)

pub returns-in-Err-clause-full : goal.returns-in-Err-clause-full
returns-in-Err-clause-full c = λ need. passes-seen _ c.self.inside.region c.args.self.now.stored (lemma_cost (record { lits = c.args.lits.now; hints = c.args.hints.now })) need (ap (λ (p : Propagating). p.stored) c.self.view_is) (c.in-Err.ensures.full need)

pub returns-in-Err-clause-err : goal.returns-in-Err-clause-err
returns-in-Err-clause-err c = ap (λ (s : Stored). record { stored = s; path = c.self.inside.trail; done = c.self.inside.done }) c.in-Err.ensures.err ∙ c.self.view_is

pub enter-requires-clause-valid : goal.enter-requires-clause-valid
enter-requires-clause-valid c = (subst (λ (v : ℕ). IsClause v c.args.lits.now) c.self.invariant.variables (subst (λ (p : Propagating). IsClause p.stored.variables c.args.lits.now) (sym c.self.view_is) c.requires.valid))

pub enter-requires-clause-distinct : goal.enter-requires-clause-distinct
enter-requires-clause-distinct c = c.self.invariant.distinct

pub enter-requires-clause-unset : goal.enter-requires-clause-unset
enter-requires-clause-unset c = subst (λ (p : Propagating). HasUnset p.path.falses c.args.lits.now) (sym c.self.view_is) c.requires.unset

pub enter-requires-clause-quiet : goal.enter-requires-clause-quiet
enter-requires-clause-quiet c = (subst (λ (p : Propagating). AllByRecursion (λ (s : ℕ). IsQuiet (take s p.path.falses) c.args.lits.now) p.path.starts) (sym c.self.view_is) c.requires.quiet)

pub invariant_of-self-in-None : goal.invariant_of-self-in-None
invariant_of-self-in-None c = keeps-short c.self.inside.region c.put_lemma.new.self c.enter.new.trail c.self.inside.slots.items c.self.inside.done c.args.lits.now (keeps-extended c.self.inside.region c.self.inside.trail c.enter.new.trail c.self.inside.slots.items c.self.inside.done c.self.invariant c.enter.ensures.entered.extends c.enter.ensures.distinct) (more-lemma c.self.inside.region c.put_lemma.new.self c.args.lits.now c.args.hints.now c.in-Ok.ensures.ok (subst (λ (n : ℕ). n ≤ c.put_lemma.new.self.capacity) c.used.ensures.value c.used.ensures.fits)) (subst (λ (p : Propagating). IsClause p.stored.variables c.args.lits.now) (sym c.self.view_is) c.requires.valid) (omega (arith, c.in-None.ensures.single.one))

pub returns-in-None-clause-ok : goal.returns-in-None-clause-ok
returns-in-None-clause-ok c = text-same (with_lemma c.args.self.now.stored (record { lits = c.args.lits.now; hints = c.args.hints.now })) c.put_lemma.new.self (c.in-Ok.ensures.ok ∙ ap (λ (s : Stored). with_lemma s (record { lits = c.args.lits.now; hints = c.args.hints.now })) (ap (λ (p : Propagating). p.stored) c.self.view_is))

pub returns-in-None-clause-extends : goal.returns-in-None-clause-extends
returns-in-None-clause-extends c = subst (λ (p : Propagating). Extends p.path c.enter.new.trail) c.self.view_is c.enter.ensures.entered.extends

pub returns-in-None-clause-ready : goal.returns-in-None-clause-ready
returns-in-None-clause-ready c = λ ready. ready-entered c.self.inside.region c.put_lemma.new.self c.args.lits.now c.self.inside.trail c.enter.new.trail c.in-Ok.id (more-lemma c.self.inside.region c.put_lemma.new.self c.args.lits.now c.args.hints.now c.in-Ok.ensures.ok (subst (λ (n : ℕ). n ≤ c.put_lemma.new.self.capacity) c.used.ensures.value c.used.ensures.fits)).clauses c.in-Ok.ensures.id c.enter.ensures.entered (subst (λ (p : Propagating). AllByRecursion (λ (s : ℕ). IsQuiet (take s p.path.falses) c.args.lits.now) p.path.starts) (sym c.self.view_is) c.requires.quiet) (λ _. c.in-None.ensures.single.first) (subst (λ (p : Propagating). IsReady (all_lits p.stored) p.path) (sym c.self.view_is) ready)

pub attach-requires-clause-from_one : goal.attach-requires-clause-from_one
attach-requires-clause-from_one c = omega (arith, c.in-Ok.ensures.id)

pub attach-requires-clause-to_last : goal.attach-requires-clause-to_last
attach-requires-clause-to_last c = attach-to_last c.self.inside.region c.put_lemma.new.self c.enter.new.trail c.self.inside.slots.items c.self.inside.done c.args.lits.now (keeps-extended c.self.inside.region c.self.inside.trail c.enter.new.trail c.self.inside.slots.items c.self.inside.done c.self.invariant c.enter.ensures.entered.extends c.enter.ensures.distinct) (more-lemma c.self.inside.region c.put_lemma.new.self c.args.lits.now c.args.hints.now c.in-Ok.ensures.ok (subst (λ (n : ℕ). n ≤ c.put_lemma.new.self.capacity) c.used.ensures.value c.used.ensures.fits)) (subst (λ (p : Propagating). IsClause p.stored.variables c.args.lits.now) (sym c.self.view_is) c.requires.valid) c.in-Ok.id c.in-Some.pair.first c.in-Some.pair.second c.in-Ok.ensures.id (subst (λ (n : ℕ). CanAttach c.enter.new.trail n c.args.lits.now c.in-Some.pair.first c.in-Some.pair.second) (sym (ap (λ (p : Propagating). p.done) c.self.view_is ∙ c.requires.ended ∙ sym (ap (λ (p : Propagating). length p.path.falses) c.self.view_is))) c.in-Some.ensures.pair)

pub attach-requires-clause-small : goal.attach-requires-clause-small
attach-requires-clause-small c = attach-small c.self.inside.region c.put_lemma.new.self c.enter.new.trail c.self.inside.slots.items c.self.inside.done c.args.lits.now (keeps-extended c.self.inside.region c.self.inside.trail c.enter.new.trail c.self.inside.slots.items c.self.inside.done c.self.invariant c.enter.ensures.entered.extends c.enter.ensures.distinct) (more-lemma c.self.inside.region c.put_lemma.new.self c.args.lits.now c.args.hints.now c.in-Ok.ensures.ok (subst (λ (n : ℕ). n ≤ c.put_lemma.new.self.capacity) c.used.ensures.value c.used.ensures.fits)) (subst (λ (p : Propagating). IsClause p.stored.variables c.args.lits.now) (sym c.self.view_is) c.requires.valid) c.in-Ok.id c.in-Some.pair.first c.in-Some.pair.second c.in-Ok.ensures.id (subst (λ (n : ℕ). CanAttach c.enter.new.trail n c.args.lits.now c.in-Some.pair.first c.in-Some.pair.second) (sym (ap (λ (p : Propagating). p.done) c.self.view_is ∙ c.requires.ended ∙ sym (ap (λ (p : Propagating). length p.path.falses) c.self.view_is))) c.in-Some.ensures.pair)

pub attach-requires-clause-first : goal.attach-requires-clause-first
attach-requires-clause-first c = attach-first c.self.inside.region c.put_lemma.new.self c.enter.new.trail c.self.inside.slots.items c.self.inside.done c.args.lits.now (keeps-extended c.self.inside.region c.self.inside.trail c.enter.new.trail c.self.inside.slots.items c.self.inside.done c.self.invariant c.enter.ensures.entered.extends c.enter.ensures.distinct) (more-lemma c.self.inside.region c.put_lemma.new.self c.args.lits.now c.args.hints.now c.in-Ok.ensures.ok (subst (λ (n : ℕ). n ≤ c.put_lemma.new.self.capacity) c.used.ensures.value c.used.ensures.fits)) (subst (λ (p : Propagating). IsClause p.stored.variables c.args.lits.now) (sym c.self.view_is) c.requires.valid) c.in-Ok.id c.in-Some.pair.first c.in-Some.pair.second c.in-Ok.ensures.id (subst (λ (n : ℕ). CanAttach c.enter.new.trail n c.args.lits.now c.in-Some.pair.first c.in-Some.pair.second) (sym (ap (λ (p : Propagating). p.done) c.self.view_is ∙ c.requires.ended ∙ sym (ap (λ (p : Propagating). length p.path.falses) c.self.view_is))) c.in-Some.ensures.pair)

pub attach-requires-clause-second : goal.attach-requires-clause-second
attach-requires-clause-second c = attach-second c.self.inside.region c.put_lemma.new.self c.enter.new.trail c.self.inside.slots.items c.self.inside.done c.args.lits.now (keeps-extended c.self.inside.region c.self.inside.trail c.enter.new.trail c.self.inside.slots.items c.self.inside.done c.self.invariant c.enter.ensures.entered.extends c.enter.ensures.distinct) (more-lemma c.self.inside.region c.put_lemma.new.self c.args.lits.now c.args.hints.now c.in-Ok.ensures.ok (subst (λ (n : ℕ). n ≤ c.put_lemma.new.self.capacity) c.used.ensures.value c.used.ensures.fits)) (subst (λ (p : Propagating). IsClause p.stored.variables c.args.lits.now) (sym c.self.view_is) c.requires.valid) c.in-Ok.id c.in-Some.pair.first c.in-Some.pair.second c.in-Ok.ensures.id (subst (λ (n : ℕ). CanAttach c.enter.new.trail n c.args.lits.now c.in-Some.pair.first c.in-Some.pair.second) (sym (ap (λ (p : Propagating). p.done) c.self.view_is ∙ c.requires.ended ∙ sym (ap (λ (p : Propagating). length p.path.falses) c.self.view_is))) c.in-Some.ensures.pair)

pub attach-requires-clause-room : goal.attach-requires-clause-room
attach-requires-clause-room c = let room = attach-room c.self.inside.region c.put_lemma.new.self c.enter.new.trail c.self.inside.slots.items c.self.inside.done c.args.lits.now (keeps-extended c.self.inside.region c.self.inside.trail c.enter.new.trail c.self.inside.slots.items c.self.inside.done c.self.invariant c.enter.ensures.entered.extends c.enter.ensures.distinct) (more-lemma c.self.inside.region c.put_lemma.new.self c.args.lits.now c.args.hints.now c.in-Ok.ensures.ok (subst (λ (n : ℕ). n ≤ c.put_lemma.new.self.capacity) c.used.ensures.value c.used.ensures.fits)) (subst (λ (p : Propagating). IsClause p.stored.variables c.args.lits.now) (sym c.self.view_is) c.requires.valid) c.in-Ok.id c.in-Some.pair.first c.in-Some.pair.second c.in-Ok.ensures.id (subst (λ (n : ℕ). CanAttach c.enter.new.trail n c.args.lits.now c.in-Some.pair.first c.in-Some.pair.second) (sym (ap (λ (p : Propagating). p.done) c.self.view_is ∙ c.requires.ended ∙ sym (ap (λ (p : Propagating). length p.path.falses) c.self.view_is))) c.in-Some.ensures.pair) in omega (arith, room, ap (λ (xs : List ℕ). length xs) c.deref_mut.ensures.value)

pub attach-requires-clause-free : goal.attach-requires-clause-free
attach-requires-clause-free c = attach-free c.self.inside.region c.put_lemma.new.self c.enter.new.trail c.self.inside.slots.items c.self.inside.done c.args.lits.now (keeps-extended c.self.inside.region c.self.inside.trail c.enter.new.trail c.self.inside.slots.items c.self.inside.done c.self.invariant c.enter.ensures.entered.extends c.enter.ensures.distinct) (more-lemma c.self.inside.region c.put_lemma.new.self c.args.lits.now c.args.hints.now c.in-Ok.ensures.ok (subst (λ (n : ℕ). n ≤ c.put_lemma.new.self.capacity) c.used.ensures.value c.used.ensures.fits)) (subst (λ (p : Propagating). IsClause p.stored.variables c.args.lits.now) (sym c.self.view_is) c.requires.valid) c.in-Ok.id c.in-Some.pair.first c.in-Some.pair.second c.in-Ok.ensures.id (subst (λ (n : ℕ). CanAttach c.enter.new.trail n c.args.lits.now c.in-Some.pair.first c.in-Some.pair.second) (sym (ap (λ (p : Propagating). p.done) c.self.view_is ∙ c.requires.ended ∙ sym (ap (λ (p : Propagating). length p.path.falses) c.self.view_is))) c.in-Some.ensures.pair)

pub attach-requires-clause-differ : goal.attach-requires-clause-differ
attach-requires-clause-differ c = (subst (λ (n : ℕ). CanAttach c.enter.new.trail n c.args.lits.now c.in-Some.pair.first c.in-Some.pair.second) (sym (ap (λ (p : Propagating). p.done) c.self.view_is ∙ c.requires.ended ∙ sym (ap (λ (p : Propagating). length p.path.falses) c.self.view_is))) c.in-Some.ensures.pair).differ

pub invariant_of-self-in-Some : goal.invariant_of-self-in-Some
invariant_of-self-in-Some c = attach-keeps c.self.inside.region c.put_lemma.new.self c.enter.new.trail c.self.inside.slots.items c.self.inside.done c.args.lits.now (keeps-extended c.self.inside.region c.self.inside.trail c.enter.new.trail c.self.inside.slots.items c.self.inside.done c.self.invariant c.enter.ensures.entered.extends c.enter.ensures.distinct) (more-lemma c.self.inside.region c.put_lemma.new.self c.args.lits.now c.args.hints.now c.in-Ok.ensures.ok (subst (λ (n : ℕ). n ≤ c.put_lemma.new.self.capacity) c.used.ensures.value c.used.ensures.fits)) (subst (λ (p : Propagating). IsClause p.stored.variables c.args.lits.now) (sym c.self.view_is) c.requires.valid) c.in-Ok.id c.in-Some.pair.first c.in-Some.pair.second c.in-Ok.ensures.id (subst (λ (n : ℕ). CanAttach c.enter.new.trail n c.args.lits.now c.in-Some.pair.first c.in-Some.pair.second) (sym (ap (λ (p : Propagating). p.done) c.self.view_is ∙ c.requires.ended ∙ sym (ap (λ (p : Propagating). length p.path.falses) c.self.view_is))) c.in-Some.ensures.pair) c.attach.new.region (with_items c.self.inside.slots c.attach.new.slots).items c.attach.ensures.stored (with_items_is c.self.inside.slots c.attach.new.slots (grind (arith, common_steps, c.attach.auto.slots, c.deref_mut.ensures.len)) ∙ c.attach.ensures.slots ∙ ap (λ (xs : List ℕ). set (set xs (2 * c.in-Ok.id) c.in-Some.pair.first) (2 * c.in-Ok.id + 1) c.in-Some.pair.second) c.deref_mut.ensures.value)

pub returns-in-Some-clause-ok : goal.returns-in-Some-clause-ok
returns-in-Some-clause-ok c = text-attached (with_lemma c.args.self.now.stored (record { lits = c.args.lits.now; hints = c.args.hints.now })) c.put_lemma.new.self c.attach.new.region c.in-Ok.id c.in-Some.pair.first c.in-Some.pair.second (c.in-Ok.ensures.ok ∙ ap (λ (s : Stored). with_lemma s (record { lits = c.args.lits.now; hints = c.args.hints.now })) (ap (λ (p : Propagating). p.stored) c.self.view_is)) c.attach.ensures.stored

pub returns-in-Some-clause-extends : goal.returns-in-Some-clause-extends
returns-in-Some-clause-extends c = subst (λ (p : Propagating). Extends p.path c.enter.new.trail) c.self.view_is c.enter.ensures.entered.extends

pub returns-in-Some-clause-ready : goal.returns-in-Some-clause-ready
returns-in-Some-clause-ready c = λ ready. ready-entered c.self.inside.region c.attach.new.region c.args.lits.now c.self.inside.trail c.enter.new.trail c.in-Ok.id (ap all_lits c.attach.ensures.stored ∙ (more-lemma c.self.inside.region c.put_lemma.new.self c.args.lits.now c.args.hints.now c.in-Ok.ensures.ok (subst (λ (n : ℕ). n ≤ c.put_lemma.new.self.capacity) c.used.ensures.value c.used.ensures.fits)).clauses) c.in-Ok.ensures.id c.enter.ensures.entered (subst (λ (p : Propagating). AllByRecursion (λ (s : ℕ). IsQuiet (take s p.path.falses) c.args.lits.now) p.path.starts) (sym c.self.view_is) c.requires.quiet) (λ one. absurd (let long = attach-long c.self.inside.region c.put_lemma.new.self c.enter.new.trail c.self.inside.slots.items c.self.inside.done c.args.lits.now (keeps-extended c.self.inside.region c.self.inside.trail c.enter.new.trail c.self.inside.slots.items c.self.inside.done c.self.invariant c.enter.ensures.entered.extends c.enter.ensures.distinct) (more-lemma c.self.inside.region c.put_lemma.new.self c.args.lits.now c.args.hints.now c.in-Ok.ensures.ok (subst (λ (n : ℕ). n ≤ c.put_lemma.new.self.capacity) c.used.ensures.value c.used.ensures.fits)) (subst (λ (p : Propagating). IsClause p.stored.variables c.args.lits.now) (sym c.self.view_is) c.requires.valid) c.in-Ok.id c.in-Some.pair.first c.in-Some.pair.second c.in-Ok.ensures.id (subst (λ (n : ℕ). CanAttach c.enter.new.trail n c.args.lits.now c.in-Some.pair.first c.in-Some.pair.second) (sym (ap (λ (p : Propagating). p.done) c.self.view_is ∙ c.requires.ended ∙ sym (ap (λ (p : Propagating). length p.path.falses) c.self.view_is))) c.in-Some.ensures.pair) in omega (arith, one, long))) (subst (λ (p : Propagating). IsReady (all_lits p.stored) p.path) (sym c.self.view_is) ready)
