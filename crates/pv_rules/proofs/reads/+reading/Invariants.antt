use Rattle.std.proofs.Common.{◌≡◌, map, drop}
use Rattle.pv_tree.specs.View.{expr_tree, exprs_of, operand_tree, step_tree, steps_of}
use Rattle.pv_names.specs.InScope.{scope_of}
use Rattle.pv_rules_expr.specs.NearestIn.{nearest_in}
use Rattle.pv_rules.specs.Codes.{calls_of_code}
use Rattle.pv_tree.specs.Operands.{operands_in, operands_in_args, operands_within, operands_in_steps}
use Rattle.pv_rules.specs.Values.{value_at}
use Rattle.pv_rules.proofs.reads.+reading.Given as goal

abbrev pub invariant-value_in-loop-arg : goal.invariant-value_in-loop-arg
invariant-value_in-loop-arg l =
    nearest_in (value_at (scope_of l.scope) (calls_of_code l.code)) (operands_in_args (exprs_of
    (map expr_tree (drop l.arg-index l.arg-items)))) l.best
    ≡ nearest_in (value_at (scope_of l.scope) (calls_of_code l.code)) (operands_in (expr_tree l.fn.e)) l.fn.nearest

abbrev pub invariant-value_in_operand-loop-step : goal.invariant-value_in_operand-loop-step
invariant-value_in_operand-loop-step l =
    nearest_in (value_at (scope_of l.scope) (calls_of_code l.code)) (operands_in_steps (steps_of
    (map step_tree (drop l.step-index l.step-items)))) l.best
    ≡ nearest_in (value_at (scope_of l.scope) (calls_of_code l.code)) (operands_within (operand_tree l.fn.operand)) l.fn.nearest
