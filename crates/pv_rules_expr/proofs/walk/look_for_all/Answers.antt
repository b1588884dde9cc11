use Rattle.pv_tree.specs.View.{expr_tree}
use Rattle.pv_names.specs.InScope.{scope_of}
use Rattle.pv_names.specs.Sorts.{sort_tree, want_tree}
use Rattle.pv_rules_expr.specs.Near.{near_at}
use Rattle.pv_rules_expr.proofs.Adding.{told}
use Rattle.pv_rules_expr.proofs.Within.{whole_added}
use Rattle.pv_rules_expr.proofs.walk.look_for_all.Goals as goal

pub returns-clause-near : goal.returns-clause-near
returns-clause-near c = λ what.
    let scope = scope_of c.args.scope.now in
    let e = expr_tree c.args.e.now in
    whole_added what scope (want_tree c.args.want) e (near_at what c.args.near.now) (near_at what c.look_within.new.near)
    (near_at what c.add_outside.new.near) (c.in_ok-sort.ensures.near what)
    (c.add_outside.ensures (told scope e (sort_tree c.in_ok-sort.sort) c.in_ok-sort.ensures.sort) what)
