use Rattle.std.proofs.Common.{ap, ◌∙◌}
use Rattle.std.proofs.lemmas.Result.{IfOk-weaker}
use Rattle.pv_tree.specs.View.{expr_tree}
use Rattle.pv_names.specs.Sorts.{want_tree}
use Rattle.pv_resolve.specs.Contexts.{block_in}
use Rattle.pv_lower.specs.Lowered.{part_type}
use Rattle.pv_lower.proofs.lowering.Lowering.part.Goals as goal

pub returns : goal.returns
returns c = λ source is.
    IfOk-weaker c.part_type.result _ _
    (λ ty e. e ∙ ap (λ p. part_type (record { project = p; block = block_in c.args.self.now.context }) (want_tree c.args.want) (expr_tree c.args.e.now))
    is.context.project)
    c.part_type.ensures
