use Rattle.pv_tree.specs.Scopes.{Scope}
use Rattle.pv_tree.specs.View.{expr_tree}
use Rattle.pv_mean.specs.ProjectSizes.{project_tree}
use Rattle.pv_pattern.specs.Patterns.{expressions_of}
use Rattle.pv_bool_case.proofs.Readings.{two_texts}
use Rattle.pv_bool_case.proofs.program.by_two.Goals as goal

pub returns : goal.returns
returns c = λ entered p there reads.
    let scope : Scope = record { project = project_tree c.args.project.now; block = entered } in
    let two = two_texts scope c.args.text.now c.args.other.now (expressions_of p) (expr_tree c.in_ok-a.a) c.texts_are_one_expression.ensures reads.say
    (c.in_ok-a.ensures entered there) in
    c.by_other-made.ensures entered p two.b reads.of_kind there two.are two.reads
