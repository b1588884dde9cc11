use Rattle.pv_tree.specs.View.{expr_tree}
use Rattle.pv_names.specs.Sorts.{sort_tree}
use Rattle.pv_names.specs.Views.{thing_tree}
use Rattle.pv_rules_expr.proofs.Adding.{faults_added}
use Rattle.pv_rules_expr.proofs.added.add_faults.Goals as goal

pub returns : goal.returns
returns c = λ scope same what.
    faults_added c.args.near.now scope (thing_tree c.args.thing) (expr_tree c.args.e.now) (sort_tree c.args.sort) c.first_place-place.result
    c.is_no_index.result c.is_beyond.result c.is_written.result c.add_where.new.nearest c.add_where-2.new.nearest c.add_where-3.new.nearest what
    same c.first_place-place.ensures c.is_no_index.ensures c.is_beyond.ensures c.is_written.ensures c.add_where.ensures c.add_where-2.ensures
    c.add_where-3.ensures
