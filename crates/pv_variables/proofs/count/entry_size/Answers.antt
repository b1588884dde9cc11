use Rattle.std.proofs.Common.{ap, ◌∙◌, arith}
use Rattle.pv_tree.specs.View.{block_tree}
use Rattle.pv_mean.specs.Layout.{entry_size}
use Rattle.pv_mean.specs.Counts.{capped}
use Rattle.pv_variables.proofs.count.entry_size.Goals as goal

pub returns-then-own-ge-BEYOND-clause-room : goal.returns-then-own-ge-BEYOND-clause-room
returns-then-own-ge-BEYOND-clause-room c = λ source is near.
    let same = c.of_entry-own.ensures ∙ ap (λ p. capped (entry_size p (block_tree c.args.block.now))) is.sizes in
    absurd (omega (arith, same, near))
