use Rattle.std.proofs.Common.{ap}
use Rattle.std.specs.Prelude.{flat_map, option_to_list}
use Rattle.pv_tree.specs.InstructionGroups.{operand_of_instruction}
use Rattle.pv_tree.specs.Parts.{calls_of_instruction}
use Rattle.pv_tree.specs.View.{instr_tree}
use Rattle.pv_tree.specs.Operands.{operands_within}
use Rattle.pv_bytes.specs.Operands.{operands_in_call}
use Rattle.pv_bytes.proofs.Marking.{also_then, also_same}
use Rattle.pv_bytes.proofs.marks.Marks.mark_instr.Goals as goal

pub returns : goal.returns
returns c =
    let i = instr_tree c.args.instr.now in
    also_then c.args.area c.args.self.now.flags.items c.mark_indexes_of.new.self.flags.items c.mark_call_of.new.self.flags.items
    (flat_map operands_within (option_to_list (operand_of_instruction i)))
    (flat_map (λ s. operands_in_call s.call) (calls_of_instruction i))
    (also_same c.args.area c.args.self.now.flags.items c.mark_indexes_of.new.self.flags.items _ _
    (ap (λ o. flat_map operands_within (option_to_list o)) c.operand_of_instruction.ensures) c.mark_indexes_of.ensures) c.mark_call_of.ensures
