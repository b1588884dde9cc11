use Rattle.std.proofs.Common.{ap, map, sym, subst}
use Rattle.pv_rules_decl.specs.Declarations.{types_of, HaveTheSame}
use Rattle.pv_types.specs.View.{type_tree, var_trees}
use Rattle.pv_tree.specs.View.{block_tree}
use Rattle.pv_tree.specs.Interfaces.{all_types}
use Rattle.pv_rules_decl.proofs.Projecting.{near_both, if_ok}
use Rattle.pv_rules_decl.proofs.on_declarations.doubled_names_of.Goals as goal

pub returns : goal.returns
returns c =
    if_ok c.later_fields_in.result (λ r n. near_both (block_tree c.args.block.now) (var_trees c.as_slice-vars.result.now) (map (λ t. type_tree t.now) c.as_slice.result.now)
    c.args.nearest c.in_ok-nearest.nearest r (ap var_trees c.as_slice-vars.ensures.value)
    (subst (λ l. HaveTheSame l (all_types (block_tree c.args.block.now).vars)) (sym (ap (map (λ t. type_tree t.now)) c.as_slice.ensures.value))
    (subst (λ l. HaveTheSame (types_of c.in_ok-gathered.gathered) (all_types (var_trees l))) c.as_slice-vars.ensures.value c.in_ok-gathered.ensures.types))
    c.in_ok-nearest.ensures n) c.later_fields_in.ensures
