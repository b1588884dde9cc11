use Rattle.std.proofs.Common.{◌≡◌, ◌≤◌, length, map, drop, All}
use Rattle.pv_gate.specs.Node.{Names}
use Rattle.pv_bool.specs.Tree.{assignment_tree}
use Rattle.pv_step.specs.Circuits.{body_gates}
use Rattle.pv_step.proofs.build.assign_all.Given as goal

-- the assignments from here on lead to the wires that all of them lead to
abbrev pub invariant-loop-assignment : goal.invariant-loop-assignment
invariant-loop-assignment l = record {
  same : body_gates (map assignment_tree (drop l.assignment-index l.body)) (record { nodes = l.gates.nodes; literals = l.literals })
      ≡ body_gates (map assignment_tree l.body) (record { nodes = l.fn.gates.nodes; literals = l.fn.literals });
  same_limit : l.gates.limit ≡ l.fn.gates.limit;
  literals : All (Names (length l.gates.nodes)) l.literals;
  longer : length l.fn.gates.nodes ≤ length l.gates.nodes;
}
