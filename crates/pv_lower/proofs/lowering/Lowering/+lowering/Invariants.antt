use Rattle.std.proofs.Common.{map, take}
use Rattle.pv_tree.specs.View.{step_tree}
use Rattle.pv_lower.proofs.Loops.{HasGiven, HasReached}
use Rattle.pv_lower.proofs.lowering.Lowering.+lowering.Given as goal

abbrev pub invariant-expression-loop-arg : goal.invariant-expression-loop-arg
invariant-expression-loop-arg l =
    HasGiven l.self l.wants l.fn.nodes.items l.nodes.items l.fn.checks.items l.checks.items l.given.items l.wanted l.arg-index l.arg-items

abbrev pub invariant-operand-loop-step : goal.invariant-operand-loop-step
invariant-operand-loop-step l =
    HasReached l.self l.fn.nodes.items l.nodes.items l.fn.checks.items l.checks.items l.access l.operand.root.value
    (map step_tree (take l.step-index l.step-items))
