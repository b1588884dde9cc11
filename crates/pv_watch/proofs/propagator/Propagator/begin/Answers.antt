use Rattle.std.proofs.Common.{◌∙◌, ℕ, ap, subst, arith}
use Rattle.pv_cnf.specs.Clause.{AreClauses}
use Rattle.pv_region.specs.Stored.{all_lits}
use Rattle.pv_watch.specs.Turns.{GoesOn}
use Rattle.pv_watch.specs.Propagating.{Propagating}
use Rattle.pv_watch.proofs.Guards.{keeps-extended}
use Rattle.pv_watch.proofs.Moving.{count-costs}
use Rattle.pv_watch.proofs.Stepping.{text-self}
use Rattle.pv_watch.proofs.Readying.{sound-early, ones-first, if-none}
use Rattle.pv_watch.proofs.Joining.{count-lits}
use Rattle.pv_watch.proofs.propagator.Propagator.begin.Goals as goal

pub settle_all-requires-clause-small : goal.settle_all-requires-clause-small
settle_all-requires-clause-small c = let costs = count-costs c.self.inside.region in omega (arith, costs, c.self.invariant.fits, c.self.invariant.small)

pub settle_all-requires-clause-valid : goal.settle_all-requires-clause-valid
settle_all-requires-clause-valid c = subst (λ (v : ℕ). AreClauses v (all_lits c.self.inside.region)) c.self.invariant.variables c.self.invariant.valid

pub settle_all-requires-clause-sound : goal.settle_all-requires-clause-sound
settle_all-requires-clause-sound c = sound-early (all_lits c.self.inside.region) c.self.inside.trail (ap (λ (p : Propagating). p.path.falses) c.self.view_is ∙ c.requires.early) (ap (λ (p : Propagating). p.path.starts) c.self.view_is ∙ c.requires.undecided)

pub settle_all-requires-clause-distinct : goal.settle_all-requires-clause-distinct
settle_all-requires-clause-distinct c = c.self.invariant.distinct

pub invariant_of-self : goal.invariant_of-self
invariant_of-self c = keeps-extended c.self.inside.region c.self.inside.trail c.settle_all.new.trail c.self.inside.slots.items c.self.inside.done c.self.invariant c.settle_all.ensures.extends c.settle_all.ensures.distinct

pub returns-clause-goes : goal.returns-clause-goes
returns-clause-goes c = subst (λ (p : Propagating). GoesOn p.stored c.self.inside.region p.path c.settle_all.new.trail) c.self.view_is (record { text = text-self c.self.inside.region; extends = c.settle_all.ensures.extends; sound = c.settle_all.ensures.sound })

pub returns-clause-ready : goal.returns-clause-ready
returns-clause-ready c = if-none c.settle_all.result (λ each. record {
  sound = c.settle_all.ensures.sound;
  ones = ones-first (all_lits c.self.inside.region) c.settle_all.new.trail _ (c.settle_all.ensures.extends.starts ∙ ap (λ (p : Propagating). p.path.starts) c.self.view_is ∙ c.requires.undecided) (omega (arith, count-lits c.self.inside.region)) each;
}) c.settle_all.ensures.ones
