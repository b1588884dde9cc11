use Rattle.std.proofs.Common.{◌≡◌, ◌<◌, length}
use Rattle.pv_solver.proofs.Backs.{Backs}
use Rattle.pv_solver.proofs.search.undo_to.Given as goal

abbrev pub invariant-levels : goal.invariant-levels
invariant-levels l = record {
  stored : l.propagator.stored ≡ l.initial.propagator.stored;
  backs : Backs l.keep l.initial.propagator.path l.propagator.path;
  ended : length l.propagator.path.starts < length l.initial.propagator.path.starts → l.propagator.done ≡ length l.propagator.path.falses;
}

abbrev pub decreases-levels : goal.decreases-levels
decreases-levels l = length l.propagator.path.starts
