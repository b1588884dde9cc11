use Rattle.pv_tree.specs.Parts.{operands_of}
use Rattle.pv_tree.specs.View.{block_tree}
use Rattle.pv_bytes.proofs.Marking.{also_nothing, also_more, also_all}
use Rattle.pv_bytes.proofs.marks.Marks.mark_blocks.Goals as goal

pub loop-block-init : goal.loop-block-init
loop-block-init c = λ project. also_nothing c.args.area c.args.self.now.flags.items

pub loop-block-preserved : goal.loop-block-preserved
loop-block-preserved c = λ project.
    also_more c.args.area (λ b. operands_of project (block_tree b)) c.args.blocks.now c.loop-block.block-index c.block-item.result
    c.args.self.now.flags.items c.loop-block.self.flags.items c.mark_block.new.self.flags.items c.loop-block-test.true c.block-item.is
    (c.loop-block.invariant project) (c.in_ok-mark_block.ensures project)

pub returns : goal.returns
returns c = λ project.
    also_all c.args.area (λ b. operands_of project (block_tree b)) c.args.blocks.now c.loop-block.block-index
    c.args.self.now.flags.items c.loop-block.self.flags.items c.loop-block-test.false (c.loop-block.invariant project)
