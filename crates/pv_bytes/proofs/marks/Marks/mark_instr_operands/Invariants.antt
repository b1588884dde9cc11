use Rattle.std.proofs.Common.{take}
use Rattle.std.specs.Prelude.{flat_map, option_to_list}
use Rattle.pv_tree.specs.View.{instr_tree}
use Rattle.pv_tree.specs.InstructionGroups.{operand_of_instruction}
use Rattle.pv_bytes.specs.Operands.{MarksAlso}
use Rattle.pv_bytes.proofs.marks.Marks.mark_instr_operands.Given as goal

abbrev pub invariant-loop-instr : goal.invariant-loop-instr
invariant-loop-instr l =
    MarksAlso l.area l.fn.self.flags.items l.self.flags.items (flat_map (λ i. option_to_list (operand_of_instruction (instr_tree i)))
    (take l.instr-index l.instrs))
