use Rattle.pv_graph.specs.Graphs.{lists_of}
use Rattle.pv_graph.specs.Rounds.{AreEnds}
use Rattle.pv_graph.proofs.chains.chain_ends.Given as goal

abbrev pub invariant-loop : goal.invariant-loop
invariant-loop l = AreEnds (lists_of l.next) l.ends.items l.counter
