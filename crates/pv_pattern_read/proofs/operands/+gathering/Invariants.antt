use Rattle.std.proofs.Common.{◌≡◌, ◌++◌, map, drop}
use Rattle.pv_tree.specs.Tree.{read}
use Rattle.pv_tree.specs.View.{exprs_of, expr_tree, operand_tree, step_tree, steps_of}
use Rattle.pv_tree.specs.Operands.{operands_in, operands_in_args, operands_in_steps}
use Rattle.pv_pattern_read.proofs.operands.+gathering.Given as goal

abbrev pub invariant-push_expr-loop-arg : goal.invariant-push_expr-loop-arg
invariant-push_expr-loop-arg l =
    map (λ o. operand_tree o.now) l.list.items ++ operands_in_args (exprs_of (map expr_tree (drop l.arg-index l.arg-items)))
    ≡ map (λ o. operand_tree o.now) l.fn.list.items ++ operands_in (expr_tree l.fn.e)

abbrev pub invariant-push_operand-loop-step : goal.invariant-push_operand-loop-step
invariant-push_operand-loop-step l =
    map (λ o. operand_tree o.now) l.list.items ++ operands_in_steps (steps_of (map step_tree (drop l.step-index l.step-items)))
    ≡ map (λ o. operand_tree o.now) l.fn.list.items ++ operands_in (read (operand_tree l.fn.operand))
