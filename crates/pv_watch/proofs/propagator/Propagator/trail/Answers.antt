use Rattle.std.proofs.Common.{◌≡◌, ap, subst}
use Rattle.pv_watch.specs.Propagating.{Propagating}
use Rattle.pv_watch.proofs.propagator.Propagator.trail.Goals as goal

pub returns-clause-path : goal.returns-clause-path
returns-clause-path c = ap (λ (p : Propagating). p.path) c.self.view_is

pub returns-clause-variables : goal.returns-clause-variables
returns-clause-variables c = subst (λ (p : Propagating). p.stored.variables ≡ p.path.variables) c.self.view_is c.self.invariant.variables
