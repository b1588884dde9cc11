use Rattle.std.proofs.Common.{refl, sym, ap, ◌∙◌, map}
use Rattle.pv_tree.specs.View.{expr_tree, exprs_of, step_tree, steps_of}
use Rattle.pv_names.specs.InScope.{scope_of}
use Rattle.pv_tree.proofs.ForCallers.{binary_seen, std_seen}
use Rattle.pv_rules_expr.specs.NearestIn.{nearest_in}
use Rattle.pv_rules.specs.Codes.{calls_of_code}
use Rattle.pv_tree.specs.Operands.{operands_in, operands_in_args, operands_in_steps, operands_in_step}
use Rattle.pv_rules.specs.Values.{value_at}
use Rattle.pv_rules.proofs.Walks.{near_two, next_of}
use Rattle.pv_rules.proofs.reads.+reading.Goals as goal

pub value_in-loop-arg-init : goal.value_in-loop-arg-init
value_in-loop-arg-init t c =
    let f = value_at (scope_of c.args.scope.now) (calls_of_code c.args.code) in
    ap (λ e. nearest_in f (operands_in e) c.args.nearest)
    (sym (std_seen c.args.e.now c.in-Std.function c.in-Std.place c.in-Std.args c.deref-arg-items.result.now c.in-Std.is c.deref-arg-items.ensures.value))

pub value_in-loop-arg-preserved : goal.value_in-loop-arg-preserved
value_in-loop-arg-preserved t c =
    next_of (value_at (scope_of c.args.scope.now) (calls_of_code c.args.code)) (λ a. operands_in (expr_tree a))
    (λ l. operands_in_args (exprs_of (map expr_tree l))) (λ a l. refl) c.deref-arg-items.result.now c.loop-arg.arg-index _ c.arg-item.result c.loop-arg.best
    c.value_in-best.result _ c.loop-arg-test.true c.arg-item.is refl c.value_in-best.ensures c.loop-arg.invariant

pub value_in-returns-in-Binary : goal.value_in-returns-in-Binary
value_in-returns-in-Binary t c =
    let f = value_at (scope_of c.args.scope.now) (calls_of_code c.args.code) in
    let l = c.deref-in-Binary.result.now in
    let r = c.deref-in-Binary-2.result.now in
    near_two f (operands_in (expr_tree l)) (operands_in (expr_tree r)) c.args.nearest c.value_in-so_far.result c.value_in-in-Binary.result
    c.value_in-so_far.ensures c.value_in-in-Binary.ensures
    ∙ ap (λ e. nearest_in f (operands_in e) c.args.nearest)
    (sym (binary_seen c.args.e.now c.in-Binary.op c.in-Binary.place c.in-Binary.left c.in-Binary.right l r c.in-Binary.is c.deref-in-Binary.ensures
    c.deref-in-Binary-2.ensures))

pub value_in_operand-loop-step-preserved : goal.value_in_operand-loop-step-preserved
value_in_operand-loop-step-preserved t c =
    next_of (value_at (scope_of c.args.scope.now) (calls_of_code c.args.code)) (λ s. operands_in_step (step_tree s))
    (λ l. operands_in_steps (steps_of (map step_tree l))) (λ s l. refl) c.deref-step-items.result.now c.loop-step.step-index _ c.step-item.result
    c.loop-step.best c.value_in_step-best.result _ c.loop-step-test.true c.step-item.is refl c.value_in_step-best.ensures c.loop-step.invariant
