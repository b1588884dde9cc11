use Rattle.std.proofs.Common.{ap, ◌∙◌}
use Rattle.pv_tree.specs.View.{block_tree}
use Rattle.pv_mean.specs.Layout.{size_among, is_brief_in}
use Rattle.pv_mean.specs.Counts.{capped}
use Rattle.pv_cells.specs.Planned.{planned}
use Rattle.pv_cells.proofs.OwnCells.{own-sized}
use Rattle.pv_cells.proofs.plan.Plan.own_size.Goals as goal

pub returns : goal.returns
returns c =
    own-sized (planned c.args.self.now) (block_tree c.args.block.now) c.of_activation.result c.value_size.result c.stl_size.result c.sum.result
    (c.of_activation.ensures ∙ ap (λ p. capped (size_among p (is_brief_in (block_tree c.args.block.now)) (block_tree c.args.block.now).vars)) c.requires.sized)
    c.value_size.ensures.is c.stl_size.ensures.is c.sum.ensures
