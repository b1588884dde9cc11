use Rattle.std.proofs.Common.{◌≡◌, ◌≤◌, ◌+◌, ◌*◌, ◌++◌, drop, length}
use Rattle.std.specs.Prelude.{flat_map}
use Rattle.pv_types.specs.declared.layout.TheConstants.{MAX_LEAVES}
use Rattle.pv_cells.specs.Below.{at_numbers, cells_of_path}
use Rattle.pv_cells.specs.Drawn.{drawn}
use Rattle.pv_cells.proofs.graph.Graph.+pushing.Given as goal

abbrev pub decreases-push_path : goal.decreases-push_path
decreases-push_path l = 3 * l.left

abbrev pub decreases-push_number : goal.decreases-push_number
decreases-push_number l = 3 * l.left + 1

abbrev pub decreases-push_below : goal.decreases-push_below
decreases-push_below l = 3 * l.left + 2

abbrev pub invariant-push_below-loop-number : goal.invariant-push_below-loop-number
invariant-push_below-loop-number l = record {
  grown : l.cells.items ++ flat_map (cells_of_path (drawn l.self) l.left) (at_numbers (drawn l.self).blocks (drop l.number-index l.calls))
      ≡ l.initial.cells.items ++ flat_map (cells_of_path (drawn l.self) l.left) (at_numbers (drawn l.self).blocks l.calls);
  few : length (flat_map (cells_of_path (drawn l.self) l.left) (at_numbers (drawn l.self).blocks (drop l.number-index l.calls))) ≤ MAX_LEAVES;
}
