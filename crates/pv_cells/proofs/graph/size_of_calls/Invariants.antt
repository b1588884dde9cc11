use Rattle.std.proofs.Common.{◌≡◌, ◌+◌, ℕ, drop}
use Rattle.pv_tree.specs.Scopes.{ProjectTree}
use Rattle.pv_mean.specs.Counts.{capped}
use Rattle.pv_cells.specs.Below.{at_numbers, size_of_paths}
use Rattle.pv_cells.specs.Graphs.{NodesAre, counts}
use Rattle.pv_cells.proofs.graph.size_of_calls.Given as goal

abbrev pub invariant-loop-number : goal.invariant-loop-number
invariant-loop-number l = record {
  within : capped l.total ≡ l.total;
  total : (project : ProjectTree) (n : ℕ) → NodesAre project l.nodes → l.below ≡ counts project n
      → capped (l.total + size_of_paths project n (at_numbers project.blocks (drop l.number-index l.calls)))
      ≡ capped (size_of_paths project n (at_numbers project.blocks l.calls));
}
