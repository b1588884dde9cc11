use Rattle.pv_tree.specs.View.{instr_tree}
use Rattle.pv_bytes.specs.Operands.{operands_in_instr}
use Rattle.pv_bytes.proofs.Marking.{also_nothing, also_more, also_all}
use Rattle.pv_bytes.proofs.marks.Marks.mark_instrs.Goals as goal

pub loop-instr-init : goal.loop-instr-init
loop-instr-init c = also_nothing c.args.area c.args.self.now.flags.items

pub loop-instr-preserved : goal.loop-instr-preserved
loop-instr-preserved c =
    also_more c.args.area (λ i. operands_in_instr (instr_tree i)) c.args.instrs.now c.loop-instr.instr-index c.instr-item.result
    c.args.self.now.flags.items
    c.loop-instr.self.flags.items c.mark_instr.new.self.flags.items c.loop-instr-test.true c.instr-item.is c.loop-instr.invariant
    c.mark_instr.ensures

pub returns : goal.returns
returns c =
    also_all c.args.area (λ i. operands_in_instr (instr_tree i)) c.args.instrs.now c.loop-instr.instr-index
    c.args.self.now.flags.items c.loop-instr.self.flags.items c.loop-instr-test.false c.loop-instr.invariant
