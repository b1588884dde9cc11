use Rattle.std.proofs.Common.{◌≡◌, ℕ, ◌<◌, length, true, false}
use Rattle.std.specs.Prelude.{slice_index_or, ◌↔◌}
use Rattle.pv_graph.specs.Graphs.{next_of, LeadFrom}
use Rattle.pv_graph.specs.Steps.{steps_of}
use Rattle.pv_graph.proofs.graph.Graph.on_cycles.Given as goal

abbrev pub invariant-loop-node : goal.invariant-loop-node
invariant-loop-node l = record {
  long : length l.marks.items ≡ l.node;
  so : (a : ℕ) → a < l.node → (slice_index_or l.marks.items a false ≡ true) ↔ LeadFrom (steps_of l.self) (next_of (steps_of l.self) a) a;
}
