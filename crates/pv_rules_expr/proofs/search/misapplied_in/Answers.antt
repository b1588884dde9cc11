use Rattle.std.proofs.Common.{ap, ◌∙◌}
use Rattle.pv_tree.specs.Parts.{parts_of}
use Rattle.pv_tree.specs.View.{expr_tree}
use Rattle.pv_names.specs.InScope.{scope_of}
use Rattle.pv_names.specs.Sorts.{want_tree}
use Rattle.pv_rules_expr.specs.Looks.{near_parts}
use Rattle.pv_rules_expr.specs.declared.search.Look.TheVariants.{Misapplied}
use Rattle.pv_rules_expr.proofs.NearParts.{misapplied_any}
use Rattle.pv_rules_expr.proofs.search.misapplied_in.Goals as goal

pub returns : goal.returns
returns c =
    let scope = scope_of c.args.scope.now in
    let parts = parts_of scope (want_tree c.args.want) (expr_tree c.args.e.now) in
    misapplied_any scope parts c.look_for_all.new.near.misapplied
    (c.in_ok-look_for_all.ensures.near Misapplied ∙ ap (near_parts Misapplied scope parts) (c.nothing_near-near.ensures Misapplied))
