use Rattle.std.proofs.Common.{◌≡◌, drop}
use Rattle.pv_graph.specs.Searches.{all_marked, marks_of}
use Rattle.pv_graph.proofs.search.Search.mark_all.Given as goal

abbrev pub invariant-loop-node : goal.invariant-loop-node
invariant-loop-node l = all_marked (marks_of l.self) (drop l.node-index l.nodes) ≡ all_marked (marks_of l.fn.self) l.nodes
