use Rattle.std.proofs.Common.{ap, subst}
use Rattle.pv_cnf.specs.Clause.{AreClauses}
use Rattle.pv_region.specs.Stored.{all_lits}
use Rattle.pv_watch.specs.Propagating.{Propagating}
use Rattle.pv_watch.proofs.propagator.Propagator.region.Goals as goal

pub returns-clause-stored : goal.returns-clause-stored
returns-clause-stored c = ap (λ (p : Propagating). p.stored) c.self.view_is

pub returns-clause-valid : goal.returns-clause-valid
returns-clause-valid c = subst (λ (p : Propagating). AreClauses p.stored.variables (all_lits p.stored)) c.self.view_is c.self.invariant.valid
