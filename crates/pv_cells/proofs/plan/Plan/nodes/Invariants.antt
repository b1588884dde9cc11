use Rattle.std.proofs.Common.{◌≡◌, map, take}
use Rattle.std.specs.List.{AllByRecursion}
use Rattle.pv_names.specs.Entries.{block_of}
use Rattle.pv_cells.specs.Graphs.{node_tree, IsNode}
use Rattle.pv_cells.specs.Planned.{planned}
use Rattle.pv_cells.proofs.plan.Plan.nodes.Given as goal

abbrev pub invariant-loop-entry : goal.invariant-loop-entry
invariant-loop-entry l = record {
  blocks : map node_tree l.nodes.items ≡ map block_of (take l.entry-index l.entries);
  each : AllByRecursion (IsNode (planned l.self)) l.nodes.items;
}
