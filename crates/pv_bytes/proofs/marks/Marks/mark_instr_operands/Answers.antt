use Rattle.std.proofs.Common.{ap}
use Rattle.std.specs.Prelude.{option_to_list}
use Rattle.pv_tree.specs.View.{instr_tree}
use Rattle.pv_tree.specs.InstructionGroups.{operand_of_instruction}
use Rattle.pv_bytes.proofs.Marking.{also_nothing, also_more, also_all, also_same}
use Rattle.pv_bytes.proofs.marks.Marks.mark_instr_operands.Goals as goal

pub loop-instr-init : goal.loop-instr-init
loop-instr-init c = also_nothing c.args.area c.args.self.now.flags.items

pub loop-instr-preserved : goal.loop-instr-preserved
loop-instr-preserved c =
    also_more c.args.area (λ i. option_to_list (operand_of_instruction (instr_tree i))) c.args.instrs.now c.loop-instr.instr-index
    c.instr-item.result c.args.self.now.flags.items
    c.loop-instr.self.flags.items c.mark_own_of.new.self.flags.items c.loop-instr-test.true c.instr-item.is c.loop-instr.invariant
    (also_same c.args.area c.loop-instr.self.flags.items c.mark_own_of.new.self.flags.items _ _
    (ap option_to_list c.operand_of_instruction.ensures) c.mark_own_of.ensures)

pub returns : goal.returns
returns c =
    also_all c.args.area (λ i. option_to_list (operand_of_instruction (instr_tree i))) c.args.instrs.now c.loop-instr.instr-index
    c.args.self.now.flags.items c.loop-instr.self.flags.items c.loop-instr-test.false c.loop-instr.invariant
