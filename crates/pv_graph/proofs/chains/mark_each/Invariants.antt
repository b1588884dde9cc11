use Rattle.std.proofs.Common.{◌≡◌, drop}
use Rattle.pv_graph.specs.Rounds.{mark_each}
use Rattle.pv_graph.proofs.chains.mark_each.Given as goal

abbrev pub invariant-loop-node : goal.invariant-loop-node
invariant-loop-node l = mark_each l.marks.items (drop l.node-index l.nodes) ≡ mark_each l.fn.marks.items l.nodes
