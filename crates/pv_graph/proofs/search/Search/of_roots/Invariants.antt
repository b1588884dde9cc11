use Rattle.std.proofs.Common.{List, ℕ}
use Rattle.pv_graph.specs.Searches.{marks_of}
use Rattle.pv_graph.specs.Arounds.{IsSpread}
use Rattle.pv_graph.proofs.search.Search.of_roots.Given as goal

abbrev pub invariant-loop-node : goal.invariant-loop-node
invariant-loop-node l = (g : List (List ℕ)) → IsSpread g l.roots (marks_of l.search)
