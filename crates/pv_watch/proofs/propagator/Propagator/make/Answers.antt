use Rattle.std.proofs.Common.{ℕ, ◌≤◌, subst, arith}
use Rattle.pv_watch.proofs.Making.{keeps-made, full-as}
use Rattle.pv_watch.proofs.propagator.Propagator.make.Goals as goal

pub returns-in-Err-clause-full : goal.returns-in-Err-clause-full
returns-in-Err-clause-full c = λ need. full-as _ _ _ (c.in-Err.ensures.full need)

pub invariant_of-result : goal.invariant_of-result
invariant_of-result c = keeps-made c.in-Ok.region c.args.words c.args.variables c.in-Ok.ensures.ok c.in_ok-trail.trail c.in_ok-slots.slots.items c.in_ok-trail.ensures.variables c.in_ok-trail.ensures.falses c.in_ok-trail.ensures.starts (omega (arith, c.in_ok-slots.ensures)) c.requires (subst (λ (n : ℕ). n ≤ c.in-Ok.region.capacity) c.used.ensures.value c.used.ensures.fits)
