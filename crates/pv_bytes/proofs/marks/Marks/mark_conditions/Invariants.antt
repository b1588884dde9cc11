use Rattle.std.proofs.Common.{take}
use Rattle.std.specs.Prelude.{flat_map}
use Rattle.pv_tree.specs.View.{expr_tree}
use Rattle.pv_tree.specs.Operands.{operands_in}
use Rattle.pv_bytes.specs.Operands.{MarksAlso}
use Rattle.pv_bytes.proofs.marks.Marks.mark_conditions.Given as goal

abbrev pub invariant-loop-arm : goal.invariant-loop-arm
invariant-loop-arm l =
    MarksAlso l.area l.fn.self.flags.items l.self.flags.items (flat_map (λ a. operands_in (expr_tree a.0)) (take l.arm-index l.arms))
