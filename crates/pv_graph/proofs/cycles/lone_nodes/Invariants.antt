use Rattle.std.proofs.Common.{List, ℕ}
use Rattle.pv_graph.specs.Graphs.{lists_of}
use Rattle.pv_graph.specs.Arounds.{AreBack}
use Rattle.pv_graph.proofs.cycles.lone_nodes.Given as goal

abbrev pub invariant-loop : goal.invariant-loop
invariant-loop l = (g : List (List ℕ)) → AreBack g (lists_of l.back.items)
