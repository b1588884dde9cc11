use Rattle.std.proofs.Common.{◌≡◌, drop}
use Rattle.pv_graph.specs.Searches.{alike_marked, marks_of}
use Rattle.pv_graph.proofs.search.Search.mark_alike.Given as goal

abbrev pub invariant-loop-node : goal.invariant-loop-node
invariant-loop-node l =
    alike_marked l.roots l.root (marks_of l.self) (drop l.node-index l.nodes) ≡ alike_marked l.roots l.root (marks_of l.fn.self) l.nodes
