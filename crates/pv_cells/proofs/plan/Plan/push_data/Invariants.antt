use Rattle.std.proofs.Common.{◌≡◌, ◌≤◌, ◌++◌, map, drop, length}
use Rattle.std.specs.Prelude.{flat_map}
use Rattle.pv_types.specs.declared.layout.TheConstants.{MAX_LEAVES}
use Rattle.pv_mean.specs.Cells as table
use Rattle.pv_names.specs.Entries.{block_of}
use Rattle.pv_cells.specs.Planned.{planned}
use Rattle.pv_cells.proofs.plan.Plan.push_data.Given as goal

abbrev pub invariant-loop-entry : goal.invariant-loop-entry
invariant-loop-entry l = record {
  grown : l.cells.items ++ flat_map (table.data_cells (planned l.self)) (map block_of (drop l.entry-index l.entries))
      ≡ l.initial.cells.items ++ flat_map (table.data_cells (planned l.self)) (planned l.self).blocks;
  few : length (flat_map (table.data_cells (planned l.self)) (map block_of (drop l.entry-index l.entries))) ≤ MAX_LEAVES;
}
