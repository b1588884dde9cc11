use Rattle.std.proofs.Common.{◌≡◌, ◌-◌, length}
use Rattle.pv_region.specs.Stored.{all_lits}
use Rattle.pv_watch.specs.Watched.{IsReady}
use Rattle.pv_watch.specs.Turns.{SameText}
use Rattle.pv_solver.proofs.search.descend.Given as goal

abbrev pub invariant-levels : goal.invariant-levels
invariant-levels l = record {
  text : SameText l.initial.propagator.stored l.propagator.stored;
  variables : l.propagator.path.variables ≡ l.initial.propagator.path.variables;
  ready : IsReady (all_lits l.propagator.stored) l.propagator.path;
}

abbrev pub decreases-levels : goal.decreases-levels
decreases-levels l = l.propagator.path.variables - length l.propagator.path.falses
