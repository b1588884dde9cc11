use Rattle.std.proofs.Common.{ap, map, sym, subst}
use Rattle.pv_types.specs.View.{type_tree, var_trees}
use Rattle.pv_tree.specs.View.{block_tree}
use Rattle.pv_tree.specs.Interfaces.{all_types}
use Rattle.pv_tree.specs.Rules.Arrays.{IsWrongType}
use Rattle.pv_rules_decl.specs.Declarations.{types_of, HaveTheSame}
use Rattle.pv_rules_decl.proofs.Sharing.{near_gathered_in}
use Rattle.pv_rules_decl.proofs.on_declarations.wrong_arrays_of.Goals as goal

pub returns : goal.returns
returns c =
    near_gathered_in (λ at t. IsWrongType at t) (map (λ t. type_tree t.now) c.as_slice-2.result.now) (all_types (block_tree c.args.block.now).vars)
    c.args.nearest c.wrong_arrays.result
    (subst (λ l. HaveTheSame l (all_types (block_tree c.args.block.now).vars)) (sym (ap (map (λ t. type_tree t.now)) c.as_slice-2.ensures.value))
    (subst (λ l. HaveTheSame (types_of c.in_ok-gathered.gathered) (all_types (var_trees l))) c.as_slice.ensures.value c.in_ok-gathered.ensures.types))
    c.wrong_arrays.ensures
