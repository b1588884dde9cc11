use Rattle.std.proofs.Common.{◌≡◌}
use Rattle.pv_types.specs.Named.{types_of}
use Rattle.pv_mean.specs.Counts.{known_in}
use Rattle.pv_mean.specs.Visits.{visits_of, all_steps, IsOpen}
use Rattle.pv_mean.proofs.sizing.Sizing.run.Given as goal

abbrev pub invariant-loop-sizing : goal.invariant-loop-sizing
invariant-loop-sizing l = record {
  types : l.sizing.types ≡ l.fn.self.types;
  open_still : IsOpen (types_of l.sizing.types) (known_in l.sizing.known) (visits_of l.sizing.tasks.items);
}

abbrev pub decreases-loop-sizing : goal.decreases-loop-sizing
decreases-loop-sizing l = all_steps (types_of l.sizing.types) (visits_of l.sizing.tasks.items)
