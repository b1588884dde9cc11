use Rattle.std.proofs.Common.{refl, ◌∙◌}
use Rattle.pv_tree.specs.Tree.{unary}
use Rattle.pv_tree.specs.View.{expr_tree}
use Rattle.pv_names.specs.Sorts.{sort_tree}
use Rattle.pv_names.proofs.ForCallers.{unary_made}
use Rattle.pv_rules_expr.proofs.Adding.{told, is_signed, unary_added, literal_added}
use Rattle.pv_rules_expr.proofs.added.add_unary.Goals as goal

pub returns-then-not-is_written-clause-sort : goal.returns-then-not-is_written-clause-sort
returns-then-not-is_written-clause-sort c = λ scope same.
    let arg = expr_tree c.args.arg.now in
    c.unary_sort-own.ensures
    ∙ unary_made scope (unary c.args.op c.args.place arg) c.args.op c.args.place arg (sort_tree c.args.sort) refl same

pub returns-then-not-is_written-clause-near : goal.returns-then-not-is_written-clause-near
returns-then-not-is_written-clause-near c = λ scope same what.
    let arg = expr_tree c.args.arg.now in
    unary_added c.args.near.now c.add_outside.new.near scope c.args.op c.args.place arg (sort_tree c.args.sort) c.misfits_unary.result
    c.add_where.new.nearest what
    (is_signed scope c.args.op c.args.place arg (sort_tree c.unary_sort-own.result) c.is_written.result
    (c.unary_sort-own.ensures
    ∙ unary_made scope (unary c.args.op c.args.place arg) c.args.op c.args.place arg (sort_tree c.args.sort) refl same)
    c.is_written.ensures
    ∙ c.if-not-is_written.true)
    same c.misfits_unary.ensures (c.add_outside.ensures (told scope arg (sort_tree c.args.sort) same)) c.add_where.ensures

pub returns-else-not-is_written-clause-sort : goal.returns-else-not-is_written-clause-sort
returns-else-not-is_written-clause-sort c = λ scope same.
    let arg = expr_tree c.args.arg.now in
    c.unary_sort-own.ensures
    ∙ unary_made scope (unary c.args.op c.args.place arg) c.args.op c.args.place arg (sort_tree c.args.sort) refl same

pub returns-else-not-is_written-clause-near : goal.returns-else-not-is_written-clause-near
returns-else-not-is_written-clause-near c = λ scope same what.
    let arg = expr_tree c.args.arg.now in
    literal_added c.args.near.now scope c.args.op c.args.place arg what
    (is_signed scope c.args.op c.args.place arg (sort_tree c.unary_sort-own.result) c.is_written.result
    (c.unary_sort-own.ensures
    ∙ unary_made scope (unary c.args.op c.args.place arg) c.args.op c.args.place arg (sort_tree c.args.sort) refl same)
    c.is_written.ensures
    ∙ c.if-not-is_written.false)
