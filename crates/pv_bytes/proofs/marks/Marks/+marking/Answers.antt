use Rattle.std.proofs.Common.{ap, sym, ◌∙◌, ◌∷◌, []}
use Rattle.std.specs.Prelude.{flat_map}
use Rattle.pv_tree.specs.View.{expr_tree, step_tree, operand_tree}
use Rattle.pv_tree.specs.Operands.{operands_in, operands_in_step, operands_within}
use Rattle.pv_bytes.proofs.Marking.{also_all, also_same, also_then}
use Rattle.pv_bytes.proofs.Gathering.{args_listed, steps_listed, operand_seen, binary_seen, std_seen}
use Rattle.pv_bytes.proofs.marks.Marks.+marking.Goals as goal

pub mark_expr-returns-in-Std : goal.mark_expr-returns-in-Std
mark_expr-returns-in-Std t c =
    also_same c.args.area c.args.self.now.flags.items c.mark_args.new.self.flags.items _ _
    (sym (ap operands_in (std_seen c.args.e.now c.in-Std.function c.in-Std.place c.in-Std.args c.as_slice.result.now c.in-Std.is
    c.as_slice.ensures.value)))
    c.mark_args.ensures

pub mark_read-returns : goal.mark_read-returns
mark_read-returns t c =
    also_then c.args.area c.args.self.now.flags.items c.mark_own.new.self.flags.items c.mark_indexes.new.self.flags.items
    (operand_tree c.args.operand.now ∷ []) (operands_within (operand_tree c.args.operand.now)) c.mark_own.ensures c.mark_indexes.ensures

pub mark_expr-returns-in-Binary : goal.mark_expr-returns-in-Binary
mark_expr-returns-in-Binary t c =
    let old = c.args.self.now.flags.items in
    let new = c.mark_expr-in-Binary-2.new.self.flags.items in
    let left = c.deref-in-Binary in
    let right = c.deref-in-Binary-2 in
    also_same c.args.area old new _ _
    (sym (ap operands_in (binary_seen c.args.e.now c.in-Binary.op c.in-Binary.place c.in-Binary.left c.in-Binary.right left.result.now
    right.result.now c.in-Binary.is left.ensures right.ensures)))
    (also_then c.args.area old c.mark_expr-in-Binary.new.self.flags.items new (operands_in (expr_tree left.result.now))
    (operands_in (expr_tree right.result.now)) c.mark_expr-in-Binary.ensures c.mark_expr-in-Binary-2.ensures)

pub mark_args-returns : goal.mark_args-returns
mark_args-returns t c =
    also_same c.args.area c.args.self.now.flags.items c.loop-arg.self.flags.items _ _ (args_listed c.args.args.now)
    (also_all c.args.area (λ e. operands_in (expr_tree e)) c.args.args.now c.loop-arg.arg-index c.args.self.now.flags.items
    c.loop-arg.self.flags.items c.loop-arg-test.false c.loop-arg.invariant)

pub mark_indexes-returns : goal.mark_indexes-returns
mark_indexes-returns t c =
    also_same c.args.area c.args.self.now.flags.items c.loop-step.self.flags.items _ _
    (ap (flat_map (λ s. operands_in_step (step_tree s))) c.deref-step-items.ensures.value
    ∙ steps_listed c.args.operand.now.steps.items ∙ sym (ap operands_within (operand_seen c.args.operand.now)))
    (also_all c.args.area (λ s. operands_in_step (step_tree s)) c.deref-step-items.result.now c.loop-step.step-index
    c.args.self.now.flags.items c.loop-step.self.flags.items c.loop-step-test.false c.loop-step.invariant)
