use Rattle.std.proofs.Common.{ap, sym, ◌∙◌, refl, bytes_eq}
use Rattle.pv_names.specs.Firsts.{or_number}
use Rattle.pv_names.proofs.FirstNumbers.{grown}
use Rattle.pv_names.proofs.blocks.names.Goals as goal

pub loop-i-preserved : goal.loop-i-preserved
loop-i-preserved c = λ key.
    c.in_ok-push.ensures key
    ∙ ap (λ o. or_number o (bytes_eq key c.index-entries-i.result.block.now.name.key) c.loop-i.i) (c.loop-i.invariant key)
    ∙ sym (grown (λ e. e.block.now.name.key) key c.args.entries.now c.loop-i.i _ c.index-entries-i.result c.loop-i-test.true c.index-entries-i.is refl)
