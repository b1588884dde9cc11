use Rattle.std.proofs.Common.{◌≡◌, take}
use Rattle.pv_kind.specs.Refinements.{without}
use Rattle.pv_rows_kind.proofs.lists.without.Given as goal

abbrev pub invariant-loop-cell : goal.invariant-loop-cell
invariant-loop-cell l = l.left ≡ without l.cells (take l.cell-index l.list)
