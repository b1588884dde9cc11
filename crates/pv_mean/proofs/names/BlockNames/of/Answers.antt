use Rattle.std.proofs.Common.{ap, sym, ◌∙◌, refl, bytes_eq}
use Rattle.pv_tree.specs.View.{block_tree}
use Rattle.pv_mean.specs.BlockNames.{number_after}
use Rattle.pv_mean.proofs.NamedBlocks.{number_added}
use Rattle.pv_mean.proofs.names.BlockNames.of.Goals as goal

pub loop-i-preserved : goal.loop-i-preserved
loop-i-preserved c = λ key.
    c.in_ok-add.ensures key
    ∙ ap (λ o. number_after o (bytes_eq key (block_tree c.index-blocks-i.result).name.key) c.loop-i.i) (c.loop-i.invariant key)
    ∙ sym (number_added c.args.blocks.now key c.loop-i.i _ c.index-blocks-i.result c.loop-i-test.true c.index-blocks-i.is refl)
