use Rattle.std.proofs.Common.{sym, ap, subst, ◌∙◌, map}
use Rattle.std.specs.Prelude.{flat_map}
use Rattle.pv_tree.specs.View.{stmt_tree}
use Rattle.pv_names.specs.InScope.{scope_of}
use Rattle.pv_rules.specs.Reads.{reads_of_stmt}
use Rattle.pv_rules.specs.Values.{AreNoVoids}
use Rattle.pv_rules.proofs.values.place_in_list.Goals as goal

pub value_where-requires : goal.value_where-requires
value_where-requires c = λ off.
    subst (λ l. AreNoVoids (scope_of c.args.scope.now) (flat_map reads_of_stmt l))
    (sym (ap (map (λ s. stmt_tree s.now)) c.as_slice-2.ensures.value ∙ c.in_ok-statements.ensures)) (c.requires off)
