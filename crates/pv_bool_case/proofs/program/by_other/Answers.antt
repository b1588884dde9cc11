use Rattle.pv_tree.specs.View.{block_tree, expr_tree}
use Rattle.pv_pattern.specs.Patterns.{expressions_of}
use Rattle.pv_bool_form.specs.Requirements.{pattern_tree}
use Rattle.pv_bool_case.proofs.Readings.{both_are, made_of}
use Rattle.pv_bool_case.proofs.program.by_other.Goals as goal

pub returns : goal.returns
returns c = λ entered p b kind there are reads.
    let so = both_are (expressions_of p) c.args.other.now (expr_tree c.args.a.now) b (expr_tree c.in_ok-b.b) c.texts_are_one_expression.ensures are reads
    (c.in_ok-b.ensures entered there).reads in
    made_of (block_tree c.args.block.now) (pattern_tree c.of_two.result) p c.first_pattern-made.result
    (record { is_first = c.first_pattern-made.ensures.is_first; program = c.first_pattern-made.ensures.program })
    (c.of_two.ensures p kind so)
