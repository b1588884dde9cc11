use Rattle.pv_graph.specs.Graphs.{lists_of}
use Rattle.pv_graph.specs.Arounds.{AreBack}
use Rattle.pv_graph.proofs.cycles.steps_back.Given as goal

abbrev pub invariant-loop-node : goal.invariant-loop-node
invariant-loop-node l = AreBack (lists_of l.next) (lists_of l.back.items)
