use Rattle.std.proofs.Common.{ℕ, ◌<◌, ◌≤◌}
use Rattle.std.specs.Prelude.{slice_index_or}
use Rattle.pv_graph.specs.Members.{Has}
use Rattle.pv_graph.specs.Graphs.{lists_of, next_of}
use Rattle.pv_graph.proofs.graph.no_step_raises.Given as goal

abbrev pub invariant-loop-node : goal.invariant-loop-node
invariant-loop-node l =
    (a b : ℕ) → a < l.node → Has (next_of (lists_of l.next) a) b → slice_index_or l.order b 0 ≤ slice_index_or l.order a 0
