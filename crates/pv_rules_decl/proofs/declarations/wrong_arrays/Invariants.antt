use Rattle.std.proofs.Common.{map, take}
use Rattle.pv_types.specs.View.{type_tree}
use Rattle.pv_tree.specs.Rules.Arrays.{IsWrongType}
use Rattle.pv_rules_expr.specs.Members.{HasSome}
use Rattle.pv_rules_expr.specs.Nearest.{Nears}
use Rattle.pv_rules_decl.proofs.declarations.wrong_arrays.Given as goal

abbrev pub invariant-loop-ty : goal.invariant-loop-ty
invariant-loop-ty l = Nears (λ at. HasSome (IsWrongType at) (map (λ t. type_tree t.now) (take l.ty-index l.types))) l.fn.nearest l.nearest
