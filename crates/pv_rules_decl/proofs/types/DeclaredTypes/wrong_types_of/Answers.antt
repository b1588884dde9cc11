use Rattle.std.proofs.Common.{ap, map, sym, subst}
use Rattle.pv_rules_decl.specs.Declarations.{types_of, HaveTheSame}
use Rattle.pv_types.specs.View.{type_tree, var_trees}
use Rattle.pv_tree.specs.View.{block_tree}
use Rattle.pv_tree.specs.Interfaces.{all_types}
use Rattle.pv_rules_decl.proofs.TypeCycles.{near_types}
use Rattle.pv_rules_decl.proofs.types.DeclaredTypes.wrong_types_of.Goals as goal

pub returns : goal.returns
returns c = λ bs t.
    near_types bs (block_tree c.args.block.now) (map (λ t. type_tree t.now) c.as_slice-2.result.now) c.args.nearest
    c.wrong_types-nearest.result c.wrong_kind.result
    (subst (λ l. HaveTheSame l (all_types (block_tree c.args.block.now).vars)) (sym (ap (map (λ t. type_tree t.now)) c.as_slice-2.ensures.value))
    (subst (λ l. HaveTheSame (types_of c.in_ok-gathered.gathered) (all_types (var_trees l))) c.as_slice.ensures.value c.in_ok-gathered.ensures.types))
    (c.wrong_types-nearest.ensures bs t) (c.wrong_kind.ensures bs t)
