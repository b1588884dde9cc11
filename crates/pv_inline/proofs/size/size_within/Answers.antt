use Rattle.std.proofs.Common.{ℕ, ap, ◌∙◌}
use Rattle.pv_inline.specs.Blocks.{blocks_in, codes_in}
use Rattle.pv_inline.specs.Counts.{size_after}
use Rattle.pv_inline.proofs.Sizes.{counted_is, sizes_are_told, faults_are_told}
use Rattle.pv_inline.proofs.size.size_within.Goals as goal

pub returns-clause-size : goal.returns-clause-size
returns-clause-size c =
    sizes_are_told (blocks_in (codes_in c.args.blocks.now)) c.args.entry c.size_after-size.result c.within_limit.result
    (counted_is (codes_in c.args.blocks.now) c.args.entry c.size_after-size.result
    (c.size_after-size.ensures ∙ ap (λ (n : ℕ). size_after (blocks_in (codes_in c.args.blocks.now)) n c.args.entry 0) c.count.ensures)) c.within_limit.ensures.size

pub returns-clause-large : goal.returns-clause-large
returns-clause-large c =
    faults_are_told (blocks_in (codes_in c.args.blocks.now)) c.args.entry c.size_after-size.result c.within_limit.result
    (counted_is (codes_in c.args.blocks.now) c.args.entry c.size_after-size.result
    (c.size_after-size.ensures ∙ ap (λ (n : ℕ). size_after (blocks_in (codes_in c.args.blocks.now)) n c.args.entry 0) c.count.ensures)) c.within_limit.ensures.large
