use Rattle.pv_tree.specs.View.{operand_tree}
use Rattle.pv_tree.specs.Operands.{operands_within}
use Rattle.pv_bytes.proofs.Marking.{also_nothing, also_more, also_all}
use Rattle.pv_bytes.proofs.marks.Marks.mark_starts.Goals as goal

pub loop-start-init : goal.loop-start-init
loop-start-init c = also_nothing c.args.area c.args.self.now.flags.items

pub loop-start-preserved : goal.loop-start-preserved
loop-start-preserved c =
    also_more c.args.area (λ v. operands_within (operand_tree v.0)) c.args.starts.now c.loop-start.start-index c.start-item.result
    c.args.self.now.flags.items
    c.loop-start.self.flags.items c.mark_indexes.new.self.flags.items c.loop-start-test.true c.start-item.is c.loop-start.invariant
    c.mark_indexes.ensures

pub returns : goal.returns
returns c =
    also_all c.args.area (λ v. operands_within (operand_tree v.0)) c.args.starts.now c.loop-start.start-index
    c.args.self.now.flags.items c.loop-start.self.flags.items c.loop-start-test.false c.loop-start.invariant
