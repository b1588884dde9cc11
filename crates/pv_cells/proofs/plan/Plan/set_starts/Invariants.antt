use Rattle.std.proofs.Common.{◌≡◌, ◌≤◌, map, drop, length}
use Rattle.pv_types.specs.declared.layout.TheConstants.{MAX_LEAVES}
use Rattle.pv_tree.specs.View.{start_tree}
use Rattle.pv_mean.specs.Layout as layout
use Rattle.pv_mean.specs.Cells as table
use Rattle.pv_names.specs.Entries.{block_of}
use Rattle.pv_cells.specs.Planned.{planned}
use Rattle.pv_cells.proofs.plan.Plan.set_starts.Given as goal

abbrev pub invariant-loop-start : goal.invariant-loop-start
invariant-loop-start l = record {
  set : table.with_starts (planned l.self) (layout.data_type (block_of l.entry)) (map start_tree (drop l.start-index l.starts)) l.cells
      ≡ table.with_starts (planned l.self) (layout.data_type (block_of l.entry)) (map start_tree l.starts) l.initial.cells;
  few : length l.cells ≤ MAX_LEAVES;
}
