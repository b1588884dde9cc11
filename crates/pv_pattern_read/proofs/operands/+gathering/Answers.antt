use Rattle.std.proofs.Common.{◌++◌, refl, map, ap, sym, arith}
use Rattle.pv_tree.specs.View.{expr_tree, operand_tree}
use Rattle.pv_tree.specs.Operands.{operands_in}
use Rattle.pv_tree.proofs.ForCallers.{std_seen}
use Rattle.pv_pattern_read.proofs.Gathering.{gathered_next, gathered_last, args_left, no_args_left}
use Rattle.pv_pattern_read.proofs.operands.+gathering.Goals as goal

pub push_expr-loop-arg-init : goal.push_expr-loop-arg-init
push_expr-loop-arg-init t c =
    ap (λ e. map (λ o. operand_tree o.now) c.args.list.now.items ++ operands_in e)
    (sym (std_seen c.args.e.now c.in-Std.function c.in-Std.place c.in-Std.args c.deref-arg-items.result.now c.in-Std.is c.deref-arg-items.ensures.value))

pub push_expr-loop-arg-preserved : goal.push_expr-loop-arg-preserved
push_expr-loop-arg-preserved t c =
    gathered_next _ _ (operands_in (expr_tree c.arg-item.result)) _ _ _ c.in_ok-push_expr-in-Std.ensures
    (args_left c.deref-arg-items.result.now c.loop-arg.arg-index _ c.arg-item.result c.loop-arg-test.true c.arg-item.is refl)
    c.loop-arg.invariant

pub push_expr-returns-after-loop-arg : goal.push_expr-returns-after-loop-arg
push_expr-returns-after-loop-arg t c =
    gathered_last _ _ _ (no_args_left c.deref-arg-items.result.now c.loop-arg.arg-index (omega arith)) c.loop-arg.invariant
