use Rattle.std.proofs.Common.{take}
use Rattle.std.specs.Prelude.{flat_map}
use Rattle.pv_tree.specs.View.{operand_tree}
use Rattle.pv_tree.specs.Operands.{operands_within}
use Rattle.pv_bytes.specs.Operands.{MarksAlso}
use Rattle.pv_bytes.proofs.marks.Marks.mark_starts.Given as goal

abbrev pub invariant-loop-start : goal.invariant-loop-start
invariant-loop-start l =
    MarksAlso l.area l.fn.self.flags.items l.self.flags.items (flat_map (λ v. operands_within (operand_tree v.0))
    (take l.start-index l.starts))
