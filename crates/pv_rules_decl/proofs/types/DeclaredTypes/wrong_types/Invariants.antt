use Rattle.std.proofs.Common.{List, map, take}
use Rattle.pv_types.specs.View.{type_tree}
use Rattle.pv_tree.specs.Tree.{BlockTree}
use Rattle.pv_rules_expr.specs.Members.{HasSome}
use Rattle.pv_rules_expr.specs.Nearest.{Nears}
use Rattle.pv_rules_decl.specs.TypeNumbers.{NamesWrongType}
use Rattle.pv_rules_decl.specs.TypeNames.{AreTypesOf}
use Rattle.pv_rules_decl.proofs.types.DeclaredTypes.wrong_types.Given as goal

abbrev pub invariant-loop-ty : goal.invariant-loop-ty
invariant-loop-ty l = (bs : List BlockTree) → AreTypesOf l.self bs
    → Nears (λ at. HasSome (NamesWrongType bs at) (map (λ t. type_tree t.now) (take l.ty-index l.types))) l.fn.nearest l.nearest
