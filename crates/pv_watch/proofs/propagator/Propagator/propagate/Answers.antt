use Rattle.std.proofs.Common.{◌+◌, ℕ, List, sym, subst, arith}
use Rattle.std.proofs.lemmas.Grind.{common_steps}
use Rattle.std.proofs.lemmas.List.{with_items_is}
use Rattle.pv_region.specs.Stored.{all_lits}
use Rattle.pv_watch.specs.Watched.{Keeps, IsReady}
use Rattle.pv_watch.specs.Turns.{GoesOn}
use Rattle.pv_watch.specs.Propagating.{Propagating}
use Rattle.pv_watch.proofs.Guards.{all-quiet}
use Rattle.pv_watch.proofs.Stepping.{goes-self}
use Rattle.pv_watch.proofs.Turning.{goes-on, turned-next}
use Rattle.pv_watch.proofs.Readying.{ready-goes}
use Rattle.pv_watch.proofs.propagator.Propagator.propagate.Goals as goal

pub turns-init : goal.turns-init
turns-init c = record { keeps = c.self.invariant; goes = goes-self c.self.inside.region c.self.inside.trail (subst (λ (p : Propagating). IsReady (all_lits p.stored) p.path) (sym c.self.view_is) c.requires.ready).sound }

pub turn-requires-clause-keeps : goal.turn-requires-clause-keeps
turn-requires-clause-keeps c = subst (λ (ns : List ℕ). Keeps c.turns.self-inside.region c.turns.self-inside.trail ns c.turns.self-inside.done) (sym c.deref_mut.ensures.value) c.turns.invariant.keeps

pub turn-requires-clause-sound : goal.turn-requires-clause-sound
turn-requires-clause-sound c = c.turns.invariant.goes.sound

pub turns-preserved : goal.turns-preserved
turns-preserved c = record { keeps = subst (λ (ns : List ℕ). Keeps c.turn.new.region c.turn.new.trail ns (c.turns.self-inside.done + 1)) (sym (with_items_is c.turns.self-inside.slots c.turn.new.slots (grind (arith, common_steps, c.turn.auto.slots, c.deref_mut.ensures.len)))) (turned-next c.turn.new.region c.turns.self-inside.trail c.turn.new.trail c.turn.new.slots c.turns.self-inside.done c.in-None.ensures.turned c.turn.ensures.goes.extends (omega (arith, c.turns-test.true, c.len.ensures.len))); goes = (goes-on c.self.inside.region c.turns.self-inside.region c.turn.new.region c.self.inside.trail c.turns.self-inside.trail c.turn.new.trail c.turns.invariant.goes c.turn.ensures.goes) }

pub invariant_of-self-in-Some : goal.invariant_of-self-in-Some
invariant_of-self-in-Some c = subst (λ (ns : List ℕ). Keeps c.turn.new.region c.turn.new.trail ns c.turns.self-inside.done) (sym (with_items_is c.turns.self-inside.slots c.turn.new.slots (grind (arith, common_steps, c.turn.auto.slots, c.deref_mut.ensures.len)))) c.in-Some.ensures.stuck.keeps

pub returns-in-Some-clause-goes : goal.returns-in-Some-clause-goes
returns-in-Some-clause-goes c = subst (λ (p : Propagating). GoesOn p.stored c.turn.new.region p.path c.turn.new.trail) c.self.view_is (goes-on c.self.inside.region c.turns.self-inside.region c.turn.new.region c.self.inside.trail c.turns.self-inside.trail c.turn.new.trail c.turns.invariant.goes c.turn.ensures.goes)

pub returns-in-Some-clause-ready : goal.returns-in-Some-clause-ready
returns-in-Some-clause-ready c = ready-goes c.self.inside.region c.turn.new.region c.self.inside.trail c.turn.new.trail (goes-on c.self.inside.region c.turns.self-inside.region c.turn.new.region c.self.inside.trail c.turns.self-inside.trail c.turn.new.trail c.turns.invariant.goes c.turn.ensures.goes) (subst (λ (p : Propagating). IsReady (all_lits p.stored) p.path) (sym c.self.view_is) c.requires.ready)

pub returns-in-Some-clause-conflict : goal.returns-in-Some-clause-conflict
returns-in-Some-clause-conflict c = c.in-Some.ensures.stuck.conflict

pub invariant_of-self : goal.invariant_of-self
invariant_of-self c = c.turns.invariant.keeps

pub returns-clause-goes : goal.returns-clause-goes
returns-clause-goes c = subst (λ (p : Propagating). GoesOn p.stored c.turns.self-inside.region p.path c.turns.self-inside.trail) c.self.view_is c.turns.invariant.goes

pub returns-clause-ready : goal.returns-clause-ready
returns-clause-ready c = ready-goes c.self.inside.region c.turns.self-inside.region c.self.inside.trail c.turns.self-inside.trail c.turns.invariant.goes (subst (λ (p : Propagating). IsReady (all_lits p.stored) p.path) (sym c.self.view_is) c.requires.ready)

pub returns-clause-ended : goal.returns-clause-ended
returns-clause-ended c = (omega (arith, c.turns-test.false, c.turns.invariant.keeps.within, c.len.ensures.len))

pub returns-clause-quiet : goal.returns-clause-quiet
returns-clause-quiet c = all-quiet c.turns.self-inside.region c.turns.self-inside.trail c.turns.self-inside.slots.items c.turns.self-inside.done c.turns.invariant.keeps (omega (arith, c.turns-test.false, c.turns.invariant.keeps.within, c.len.ensures.len)) (ready-goes c.self.inside.region c.turns.self-inside.region c.self.inside.trail c.turns.self-inside.trail c.turns.invariant.goes (subst (λ (p : Propagating). IsReady (all_lits p.stored) p.path) (sym c.self.view_is) c.requires.ready)).ones
