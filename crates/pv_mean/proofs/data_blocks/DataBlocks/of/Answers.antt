use Rattle.pv_tree.specs.View.{block_tree}
use Rattle.pv_mean.proofs.DataStarts.{added_within, begins_added, total_added, blocks_from}
use Rattle.pv_mean.proofs.data_blocks.DataBlocks.of.Goals as goal

pub loop-block-preserved : goal.loop-block-preserved
loop-block-preserved c =
    let known = c.args.known.now in
    let old = c.loop-block.blocks_so_far in
    let new = c.add.new.self in
    let b = block_tree c.block-item.result in
    let adds = c.in_ok-add.ensures in
    let split = blocks_from c.args.blocks.now c.loop-block.block-index c.block-item.result c.loop-block-test.true c.block-item.is in
    record {
      within = added_within known old new b adds c.loop-block.invariant.within;
      begins = λ project are key. begins_added known old new b adds project are _ _ split c.loop-block.invariant.within key _
          (c.loop-block.invariant.begins project are key);
      total = λ project are. total_added known old new b adds project are _ _ split _ (c.loop-block.invariant.total project are);
    }
