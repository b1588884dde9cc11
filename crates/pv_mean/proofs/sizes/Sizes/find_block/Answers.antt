use Rattle.std.proofs.Common.{map, ap, ◌∙◌}
use Rattle.pv_tree.specs.View.{block_tree}
use Rattle.pv_mean.proofs.NamedBlocks.{block_found, no_block}
use Rattle.pv_mean.proofs.sizes.Sizes.find_block.Goals as goal

pub returns-in-Some : goal.returns-in-Some
returns-in-Some c =
    let s = c.args.self.now in
    block_found (λ b. b.now) c.as_slice.result.now s.project.now.blocks.list.items c.args.name.now.key c.in-Some.number _ c.get.result c.in-Some.ensures
    (s.by_name c.args.name.now.key) (c.as_slice.ensures.value ∙ ap (λ b. b.list.items) c.blocks-in-Some.ensures) c.get.ensures.lookup.0 c.get.ensures.lookup.1

pub returns-in-None : goal.returns-in-None
returns-in-None c =
    let s = c.args.self.now in
    no_block (map block_tree s.project.now.blocks.list.items) c.args.name.now.key _ c.in-None.ensures (s.by_name c.args.name.now.key)
