use Rattle.std.proofs.Common.{◌≡◌, [], drop}
use Rattle.pv_flow.specs.Checks.{marks_after}
use Rattle.pv_flow.proofs.variables.node_marks.Given as goal

-- what is left leads on to the marks of all
abbrev pub invariant-loop-node : goal.invariant-loop-node
invariant-loop-node l = marks_after l.k l.marks.items (drop l.node-index l.nodes) ≡ marks_after l.k [] l.nodes
