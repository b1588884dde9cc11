use Rattle.std.proofs.Common.{◌≡◌, ℕ, suc, map, take, length}
use Rattle.pv_tree.specs.Scopes.{ProjectTree}
use Rattle.pv_mean.specs.Counts.{capped}
use Rattle.pv_mean.specs.Cells.{brief_below}
use Rattle.pv_cells.specs.Graphs.{node_tree, NodesAre, counts}
use Rattle.pv_cells.proofs.graph.next_round.Given as goal

abbrev pub invariant-loop-node : goal.invariant-loop-node
invariant-loop-node l = (project : ProjectTree) (n : ℕ) → NodesAre project l.nodes → l.below ≡ counts project n
    → l.next.items ≡ map (λ x. capped (length (brief_below project (suc n) (node_tree x)))) (take l.node-index l.nodes)
