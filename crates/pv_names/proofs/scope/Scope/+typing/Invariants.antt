use Rattle.std.proofs.Common.{◌≡◌, map, take, drop}
use Rattle.pv_tree.specs.View.{steps_of, step_tree, expr_tree, operand_tree}
use Rattle.pv_tree.specs.Types.{sort_of}
use Rattle.pv_names.specs.InScope.{scope_of}
use Rattle.pv_names.specs.Sorts.{sort_tree}
use Rattle.pv_names.specs.Views.{thing_tree}
use Rattle.pv_names.proofs.Steps.{IsOn}
use Rattle.pv_names.proofs.scope.Scope.+typing.Given as goal

abbrev pub invariant-sort_of-loop-arg : goal.invariant-sort_of-loop-arg
invariant-sort_of-loop-arg l =
    map sort_tree l.parts.items ≡ map (λ e. sort_of (scope_of l.self) (expr_tree e)) (take l.arg-index l.arg-items)

abbrev pub invariant-sort_of_operand-loop-step : goal.invariant-sort_of_operand-loop-step
invariant-sort_of_operand-loop-step l =
    IsOn (scope_of l.self) (operand_tree l.operand) l.last (thing_tree l.thing) l.indexed
    (steps_of (map step_tree (drop l.step-index l.step-items)))
