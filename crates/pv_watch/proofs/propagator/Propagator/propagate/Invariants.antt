use Rattle.std.proofs.Common.{◌-◌}
use Rattle.pv_watch.specs.Watched.{Keeps}
use Rattle.pv_watch.specs.Turns.{GoesOn}
use Rattle.pv_watch.proofs.propagator.Propagator.propagate.Given as goal

abbrev pub invariant-turns : goal.invariant-turns
invariant-turns l = record {
  keeps : Keeps l.self-inside.region l.self-inside.trail l.self-inside.slots.items l.self-inside.done;
  goes : GoesOn l.initial.self-inside.region l.self-inside.region l.initial.self-inside.trail l.self-inside.trail;
}

abbrev pub decreases-turns : goal.decreases-turns
decreases-turns l = l.self-inside.trail.variables - l.self-inside.done
