use Rattle.std.proofs.Common.{sym, ap, subst, ◌∙◌}
use Rattle.pv_tree.specs.Tree.{scl}
use Rattle.pv_tree.specs.View.{body_tree, stmt_trees}
use Rattle.pv_names.specs.InScope.{scope_of}
use Rattle.pv_rules.specs.Values.{AreNoVoids, reads_of_statements}
use Rattle.pv_rules.proofs.values.place_in_body.Goals as goal

pub place_in_list-requires : goal.place_in_list-requires
place_in_list-requires c = λ off.
    subst (λ b. AreNoVoids (scope_of c.args.scope.now) (reads_of_statements b))
    (ap body_tree c.in-Scl.is ∙ ap (λ l. scl (stmt_trees l)) (sym c.as_slice.ensures.value)) (c.requires off)
