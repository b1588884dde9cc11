use Rattle.std.proofs.Common.{◌≡◌}
use Rattle.pv_circuit.specs.Circuits.{begin_nodes, input_literals}
use Rattle.pv_step.proofs.step.inputs.Given as goal

-- the nodes and the literals of the inputs so far
abbrev pub invariant-loop-taken : goal.invariant-loop-taken
invariant-loop-taken l = record {
  gates : l.gates ≡ record l.fn.gates { nodes = begin_nodes l.taken };
  literals : l.literals.items ≡ input_literals 0 l.taken;
}
