use Rattle.std.proofs.Common.{◌≡◌, List, map, take}
use Rattle.std.specs.Prelude.{flat_map}
use Rattle.pv_types.specs.View.{type_tree}
use Rattle.pv_tree.specs.Tree.{BlockTree}
use Rattle.pv_rules_decl.specs.TypeNumbers.{numbers_of_type}
use Rattle.pv_rules_decl.specs.TypeNames.{NumbersTypes}
use Rattle.pv_rules_decl.proofs.types.TypeNames.targets_among.Given as goal

abbrev pub invariant-loop-ty : goal.invariant-loop-ty
invariant-loop-ty l = (bs : List BlockTree) → NumbersTypes l.self bs
    → l.targets.items ≡ flat_map (numbers_of_type bs) (map (λ t. type_tree t.now) (take l.ty-index l.types))
