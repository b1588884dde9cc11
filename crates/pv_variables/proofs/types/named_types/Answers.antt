use Rattle.std.proofs.Common.{◌≡◌, [], map, ap, ◌∙◌}
use Rattle.pv_types.specs.Named.{types_of}
use Rattle.pv_tree.specs.View.{block_tree}
use Rattle.pv_tree.specs.NamedTypes.{types_of_project}
use Rattle.pv_mean.specs.ProjectSizes.{project_tree, with_blocks}
use Rattle.std.proofs.lemmas.Result.{IfOk-weaker}
use Rattle.pv_mean.proofs.ForCallers.{table_has_all}
use Rattle.pv_variables.proofs.types.named_types.Goals as goal

pub returns : goal.returns
returns c =
    let project = project_tree c.args.project.now in
    let blocks : c.as_slice.result.now ≡ c.args.project.now.blocks.list.items =
    c.as_slice.ensures.value ∙ ap (λ b. b.list.items) c.blocks-2.ensures in
    IfOk-weaker c.types_among.result _ (λ t. types_of t ≡ types_of_project project)
    (λ t is. is ∙ ap (λ bs. with_blocks [] (map block_tree bs)) blocks ∙ table_has_all project c.args.project.now.keeps) c.types_among.ensures
