use Rattle.std.proofs.Common.{take, ◌∷◌, []}
use Rattle.std.specs.Prelude.{flat_map}
use Rattle.pv_tree.specs.View.{operand_tree}
use Rattle.pv_bytes.specs.Operands.{MarksAlso}
use Rattle.pv_bytes.proofs.marks.Marks.mark_operands.Given as goal

abbrev pub invariant-loop-operand : goal.invariant-loop-operand
invariant-loop-operand l =
    MarksAlso l.area l.fn.self.flags.items l.self.flags.items (flat_map (λ o. operand_tree o ∷ []) (take l.operand-index l.operands))
