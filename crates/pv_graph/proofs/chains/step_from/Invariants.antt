use Rattle.std.proofs.Common.{◌≡◌, drop, length, replicate, false}
use Rattle.pv_graph.specs.Graphs.{lists_of}
use Rattle.pv_graph.specs.Rounds.{step_marks}
use Rattle.pv_graph.proofs.chains.step_from.Given as goal

abbrev pub invariant-loop-node : goal.invariant-loop-node
invariant-loop-node l =
    step_marks (lists_of (drop l.node l.next)) (drop l.node l.from) l.marks.items
    ≡ step_marks (lists_of l.next) l.from (replicate (length l.next) false)
