use Rattle.std.proofs.Common.{◌≡◌, ◌++◌, drop}
use Rattle.pv_lift.specs.Groups.{bounds_in}
use Rattle.pv_lift.proofs.facts.ranges.Given as goal

-- the ranges so far and those of the cells that are left
abbrev pub invariant-loop-cell : goal.invariant-loop-cell
invariant-loop-cell l = record {
  ranges : l.ranges.items ++ bounds_in l.group (drop l.cell-index l.cells) ≡ bounds_in l.group l.cells;
}
