use Rattle.pv_tree.specs.View.{expr_tree}
use Rattle.pv_tree.specs.Operands.{operands_in}
use Rattle.pv_bytes.proofs.Marking.{also_nothing, also_more, also_all}
use Rattle.pv_bytes.proofs.marks.Marks.mark_conditions.Goals as goal

pub loop-arm-init : goal.loop-arm-init
loop-arm-init c = also_nothing c.args.area c.args.self.now.flags.items

pub loop-arm-preserved : goal.loop-arm-preserved
loop-arm-preserved c =
    also_more c.args.area (λ a. operands_in (expr_tree a.0)) c.args.arms.now c.loop-arm.arm-index c.arm-item.result
    c.args.self.now.flags.items
    c.loop-arm.self.flags.items c.mark_expr.new.self.flags.items c.loop-arm-test.true c.arm-item.is c.loop-arm.invariant c.mark_expr.ensures

pub returns : goal.returns
returns c =
    also_all c.args.area (λ a. operands_in (expr_tree a.0)) c.args.arms.now c.loop-arm.arm-index c.args.self.now.flags.items
    c.loop-arm.self.flags.items c.loop-arm-test.false c.loop-arm.invariant
