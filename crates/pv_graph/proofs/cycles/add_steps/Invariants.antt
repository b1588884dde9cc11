use Rattle.std.proofs.Common.{List, ℕ}
use Rattle.pv_graph.specs.Members.{Has}
use Rattle.pv_graph.specs.Graphs.{lists_of, next_of}
use Rattle.pv_graph.specs.Arounds.{AreBack}
use Rattle.pv_graph.proofs.cycles.add_steps.Given as goal

abbrev pub invariant-loop-target : goal.invariant-loop-target
invariant-loop-target l =
    (g : List (List ℕ)) → AreBack g (lists_of l.fn.back.items) → ((b : ℕ) → Has l.targets b → Has (next_of g l.node) b)
    → AreBack g (lists_of l.back.items)
