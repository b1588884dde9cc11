use Rattle.pv_tree.specs.Scopes.{Scope}
use Rattle.pv_tree.specs.View.{block_tree, expr_tree}
use Rattle.pv_mean.specs.ProjectSizes.{project_tree}
use Rattle.pv_pattern.specs.Patterns.{expressions_of}
use Rattle.pv_bool_form.specs.Requirements.{pattern_tree}
use Rattle.pv_bool_case.proofs.Readings.{one_text, made_of}
use Rattle.pv_bool_case.proofs.program.by_one.Goals as goal

pub returns : goal.returns
returns c = λ entered p there reads.
    let a = expr_tree c.in_ok-a.a in
    let scope : Scope = record { project = project_tree c.args.project.now; block = entered } in
    let are = one_text scope c.args.text.now (expressions_of p) a c.texts_are_one_expression.ensures reads.say (c.in_ok-a.ensures entered there) in
    made_of (block_tree c.args.block.now) (pattern_tree c.of_one.result) p c.first_pattern-made.result
    (record { is_first = c.first_pattern-made.ensures.is_first; program = c.first_pattern-made.ensures.program })
    (c.of_one.ensures p reads.of_kind are)
