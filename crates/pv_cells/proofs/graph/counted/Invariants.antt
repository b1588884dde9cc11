use Rattle.std.proofs.Common.{◌≡◌}
use Rattle.pv_tree.specs.Scopes.{ProjectTree}
use Rattle.pv_cells.specs.Graphs.{NodesAre, counts}
use Rattle.pv_cells.proofs.graph.counted.Given as goal

abbrev pub invariant-loop-round : goal.invariant-loop-round
invariant-loop-round l = (project : ProjectTree) → NodesAre project l.nodes → l.below.items ≡ counts project l._round
