use Rattle.std.proofs.Common.{ap, ◌∙◌}
use Rattle.std.proofs.lemmas.Result.{IfOk-weaker}
use Rattle.pv_tree.specs.View.{block_tree}
use Rattle.pv_names.specs.Views.{held_tree}
use Rattle.pv_mean.specs.Activations.{block_begins}
use Rattle.pv_resolve.proofs.Naming.{held_block, unheld_block}
use Rattle.pv_resolve.proofs.context.Context.block.Goals as goal

pub returns-in-Some-clause-value : goal.returns-in-Some-clause-value
returns-in-Some-clause-value c =
    λ source first is. IfOk-weaker c.data_block.result _ _ (λ b e.
    e ∙ held_block source (block_tree c.block-block.result.now) (held_tree c.in-Some.ty) c.in-Some.ensures
    ∙ ap (block_begins source) c.block-block.ensures)
    (c.data_block.ensures.value source first is)

pub returns-in-None-clause-value : goal.returns-in-None-clause-value
returns-in-None-clause-value c =
    λ source first is. unheld_block source (block_tree c.block-block.result.now) c.in-None.ensures
    ∙ ap (block_begins source) c.block-block.ensures

pub returns-in-Some-clause-room : goal.returns-in-Some-clause-room
returns-in-Some-clause-room c =
    λ source is h. c.data_block.ensures.room source is h
