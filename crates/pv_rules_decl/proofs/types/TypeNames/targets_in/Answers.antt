use Rattle.std.proofs.Common.{ap, map, sym, subst, ◌∙◌}
use Rattle.pv_types.specs.View.{type_tree, var_trees}
use Rattle.pv_tree.specs.View.{block_tree}
use Rattle.pv_tree.specs.Interfaces.{all_types}
use Rattle.pv_rules_decl.specs.Declarations.{types_of, HaveTheSame}
use Rattle.pv_rules_decl.proofs.Sharing.{targets_same, targets_none}
use Rattle.pv_rules_decl.proofs.types.TypeNames.targets_in.Goals as goal

pub returns-then-not-is_type : goal.returns-then-not-is_type
returns-then-not-is_type c = λ bs are.
    targets_none bs (block_tree c.args.block.now) c.new.result.items (sym c.is_type.ensures ∙ c.if-not-is_type.true) c.new.ensures.items

pub returns : goal.returns
returns c = λ bs are.
    targets_same bs (block_tree c.args.block.now) c.in_ok-list.list.items (map (λ t. type_tree t.now) c.as_slice-2.result.now)
    (sym c.is_type.ensures ∙ c.if-not-is_type.false) (c.in_ok-list.ensures bs are)
    (subst (λ l. HaveTheSame l (all_types (block_tree c.args.block.now).vars)) (sym (ap (map (λ t. type_tree t.now)) c.as_slice-2.ensures.value))
    (subst (λ l. HaveTheSame (types_of c.in_ok-gathered.gathered) (all_types (var_trees l))) c.as_slice.ensures.value c.in_ok-gathered.ensures.types))
