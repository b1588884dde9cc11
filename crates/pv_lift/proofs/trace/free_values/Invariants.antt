use Rattle.std.proofs.Common.{◌≡◌, ◌≤◌, ◌++◌, drop}
use Rattle.pv_lift.specs.Traces.{free_in}
use Rattle.pv_lift.proofs.trace.free_values.Given as goal

-- the values so far and those of the cells that are left
abbrev pub invariant-loop-cell : goal.invariant-loop-cell
invariant-loop-cell l = record {
  values : l.values ++ free_in (drop l.cell-index l.cells) (drop l.at l.image) ≡ free_in l.cells l.image;
  few : l.at ≤ l.cell-index;
}
