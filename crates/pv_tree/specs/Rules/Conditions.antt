-- A condition isn't BOOL: that of IF, ELSIF, WHILE or UNTIL. The place is its first token.
use Rattle.std.specs.Prelude.{◌≡◌, List, [], ◌∷◌, Any, IsTrue}
use Rattle.pv_place.specs.declared.place.Place.{Place}
use Rattle.pv_tree.specs.Tree.{ExprTree, StmtTree, if_, while_, repeat_, BlockTree}
use Rattle.pv_tree.specs.LiteralTypes.{nothing}
use Rattle.pv_tree.specs.Sorts.{taken, is_bool}
use Rattle.pv_tree.specs.Scopes.{ProjectTree, Scope}
use Rattle.pv_tree.specs.Things.{first_place}
use Rattle.pv_tree.specs.Types.{sort_of}
use Rattle.pv_tree.specs.Fits.{is_of_other_type}
use Rattle.pv_tree.specs.Parts.{spots_of_body, conditions_of}

abbrev pub conditions_of_stmt : StmtTree → List ExprTree
conditions_of_stmt (if_ conditions other place) = conditions_of conditions
conditions_of_stmt (while_ condition body place) = condition ∷ []
conditions_of_stmt (repeat_ body condition place) = condition ∷ []
conditions_of_stmt s = []

abbrev pub IsNoCondition : Scope → Place → ExprTree → Type 0
IsNoCondition scope at e =
    (first_place e ≡ at) × IsTrue (is_of_other_type is_bool (taken nothing (sort_of scope e)))

abbrev pub HasNoCondition : ProjectTree → Place → BlockTree → Type 0
HasNoCondition project at block =
    Any (λ s. Any (IsNoCondition (record { project = project; block = block }) at)
    (conditions_of_stmt s.stmt)) (spots_of_body block.body)

abbrev pub IsWrongCondition : ProjectTree → Place → Type 0
IsWrongCondition project at = Any (HasNoCondition project at) project.blocks
