-- All types and variables that are gathered, as plain data.
use Rattle.std.specs.Prelude.{◌↔◌, List, flat_map, map}
use Rattle.pv_types.specs.Tree.{TypeTree, VarTree}
use Rattle.pv_types.specs.View.{type_tree, vars_tree}
use Rattle.pv_rules_expr.specs.Members.{Has}
use Rattle.pv_rules_decl.specs.declared.gathered.Gathered.{Gathered}

abbrev pub types_of : Gathered → List TypeTree
types_of d = map (λ t. type_tree t.now) d.types.items

abbrev pub vars_of : Gathered → List VarTree
vars_of d = flat_map (λ v. vars_tree v.now) d.vars.items

-- two lists have the same elements, each as often as it may be
abbrev pub HaveTheSame : {X : Type 0} → List X → List X → Type 0
HaveTheSame {X} xs ys = (x : X) → Has xs x ↔ Has ys x
