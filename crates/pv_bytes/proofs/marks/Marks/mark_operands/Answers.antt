use Rattle.std.proofs.Common.{◌∷◌, []}
use Rattle.pv_tree.specs.View.{operand_tree}
use Rattle.pv_bytes.proofs.Marking.{also_nothing, also_more, also_all}
use Rattle.pv_bytes.proofs.marks.Marks.mark_operands.Goals as goal

pub loop-operand-init : goal.loop-operand-init
loop-operand-init c = also_nothing c.args.area c.args.self.now.flags.items

pub loop-operand-preserved : goal.loop-operand-preserved
loop-operand-preserved c =
    also_more c.args.area (λ o. operand_tree o ∷ []) c.args.operands.now c.loop-operand.operand-index c.operand-item.result
    c.args.self.now.flags.items
    c.loop-operand.self.flags.items c.mark_own.new.self.flags.items c.loop-operand-test.true c.operand-item.is
    c.loop-operand.invariant c.mark_own.ensures

pub returns : goal.returns
returns c =
    also_all c.args.area (λ o. operand_tree o ∷ []) c.args.operands.now c.loop-operand.operand-index c.args.self.now.flags.items
    c.loop-operand.self.flags.items c.loop-operand-test.false c.loop-operand.invariant
