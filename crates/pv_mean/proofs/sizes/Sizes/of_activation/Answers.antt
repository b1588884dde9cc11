use Rattle.std.proofs.Common.{refl, ap, ◌∙◌}
use Rattle.pv_types.specs.View.{var_trees}
use Rattle.pv_tree.specs.View.{block_tree}
use Rattle.pv_mean.specs.Layout.{size_among, is_brief_in}
use Rattle.pv_mean.specs.Counts.{capped}
use Rattle.pv_mean.specs.Sized.{sized_project}
use Rattle.pv_mean.specs.LaidOut.{test_of}
use Rattle.pv_mean.proofs.LaidVariables.{among_same}
use Rattle.pv_mean.proofs.sizes.Sizes.of_activation.Goals as goal

pub returns : goal.returns
returns c =
    let project = sized_project c.args.self.now in
    let block = block_tree c.args.block.now in
    c.of_variables.ensures
    ∙ ap capped (ap (λ vs. size_among project (test_of c.activation_part-part.result) (var_trees vs)) c.as_slice.ensures.value
    ∙ among_same project (test_of c.activation_part-part.result) (is_brief_in block) (λ s. c.activation_part-part.ensures block s refl)
    block.vars)
