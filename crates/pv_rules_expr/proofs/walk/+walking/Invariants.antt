use Rattle.std.proofs.Common.{map, drop}
use Rattle.pv_tree.specs.View.{steps_of, step_tree, operand_tree}
use Rattle.pv_names.specs.InScope.{scope_of}
use Rattle.pv_names.specs.Views.{thing_tree}
use Rattle.pv_rules_expr.proofs.Along.{ArgsSoFar, StepsSoFar}
use Rattle.pv_rules_expr.proofs.walk.+walking.Given as goal

abbrev pub invariant-look_within-loop-arg : goal.invariant-look_within-loop-arg
invariant-look_within-loop-arg l = ArgsSoFar (scope_of l.scope) l.arg-items l.arg-index l.parts.items l.fn.near l.near

abbrev pub invariant-look_along-loop-step : goal.invariant-look_along-loop-step
invariant-look_along-loop-step l =
    StepsSoFar l.reads (scope_of l.scope) (operand_tree l.operand) l.last (thing_tree l.thing) l.indexed
    (steps_of (map step_tree (drop l.step-index l.step-items))) l.fn.near l.near
