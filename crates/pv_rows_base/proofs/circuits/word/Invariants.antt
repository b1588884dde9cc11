use Rattle.std.proofs.Common.{length, All}
use Rattle.pv_gate.specs.Node.{Names}
use Rattle.pv_rows_base.proofs.circuits.word.Given as goal

-- the literals so far are of nodes
abbrev pub invariant-loop-text : goal.invariant-loop-text
invariant-loop-text l = All (Names (length l.gates.nodes)) l.word.items
