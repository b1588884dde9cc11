use Rattle.std.proofs.Common.{take}
use Rattle.std.specs.Prelude.{flat_map}
use Rattle.pv_tree.specs.View.{expr_tree, step_tree}
use Rattle.pv_tree.specs.Operands.{operands_in, operands_in_step}
use Rattle.pv_bytes.specs.Operands.{MarksAlso}
use Rattle.pv_bytes.proofs.marks.Marks.+marking.Given as goal

abbrev pub invariant-mark_args-loop-arg : goal.invariant-mark_args-loop-arg
invariant-mark_args-loop-arg l =
    MarksAlso l.area l.fn.self.flags.items l.self.flags.items (flat_map (λ e. operands_in (expr_tree e)) (take l.arg-index l.args))

abbrev pub invariant-mark_indexes-loop-step : goal.invariant-mark_indexes-loop-step
invariant-mark_indexes-loop-step l =
    MarksAlso l.area l.fn.self.flags.items l.self.flags.items (flat_map (λ s. operands_in_step (step_tree s))
    (take l.step-index l.step-items))
