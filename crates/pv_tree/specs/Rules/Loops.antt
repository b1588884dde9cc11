-- Loops. The variable of a FOR isn't a local INT or DINT, at the variable; or it is assigned, an output or VAR_IN_OUT argument or
-- the variable of another FOR in its body, at the target, the argument or the inner FOR's variable. BY is zero or outside the
-- variable's type, at the literal. EXIT or CONTINUE stands outside a loop, at the word.
use Rattle.std.specs.Prelude.{◌≡◌, ◌⊎◌, ℕ, pos, List, [], ◌∷◌, bytes_eq, Bool as Truth, true, false, ◌||◌, not, is_some, Some, None, Any, IsTrue, option_to_list}
use Rattle.pv_place.specs.declared.place.Place.{Place}
use Rattle.pv_types.specs.declared.declaration.Literal.{Literal}
use Rattle.pv_types.specs.Tree.{TypeTree, plain, array, structure, named, unread}
use Rattle.pv_types.specs.View.{section_of, declared_type_of}
use Rattle.pv_tree.specs.declared.expr.Root.{Root}
use Rattle.pv_tree.specs.declared.expr.Root.TheVariants.{Local, Named, Area}
use Rattle.pv_tree.specs.Tree.{PlacedName, OperandTree, operand, StepTrees, no_steps, steps, ArgTree, StmtTree, for_, exit_, continue_, BlockTree}
use Rattle.pv_tree.specs.LiteralTypes.{Want, this, is_whole_number, type_of_literal}
use Rattle.pv_tree.specs.Sorts.{widens}
use Rattle.pv_tree.specs.Scopes.{ProjectTree, Scope, first_var, is_const, type_named}
use Rattle.pv_tree.specs.Things.{Thing, no_name, thing_of_word, place_of_operand, first_place}
use Rattle.pv_tree.specs.Callees.{CallSite, param_of_arg}
use Rattle.pv_tree.specs.Parts.{Loop, a_for, another, Spot, spots_of_body, want_of_counter, calls_of_stmt, operand_of, target_of}
use Rattle.pv_tree.specs.Rules.MissingNames.{counter_of}
use Rattle.pv_tree.specs.Rules.Targets.{goes_out_where}

-- ---- the variable

-- INT and DINT count; a type that isn't declared is no fault here
abbrev pub doesnt_count : Scope → TypeTree → Truth
doesnt_count scope (plain ty) = not (is_whole_number ty)
doesnt_count scope (array low high of place) = true
doesnt_count scope (structure vars) = true
doesnt_count scope (named name place) = is_some (type_named scope.project name.key)
doesnt_count scope unread = true

-- the word is a variable of another type, a constant, or a block or the function's value
abbrev pub isnt_named_local : Thing → Truth
isnt_named_local (no_name place) = false
isnt_named_local thing = true

abbrev pub isnt_counter : Scope → List ℕ → Place → Truth
isnt_counter scope key place = elim (first_var scope.block.vars key) [
  | None ↦ isnt_named_local (thing_of_word scope key false place)
  | Some v ↦ is_const (section_of v) || doesnt_count scope (declared_type_of v)
]

abbrev pub IsNoCounter : Scope → Place → Spot → Type 0
IsNoCounter scope at s =
    Any (λ n. (n.1 ≡ at) × IsTrue (isnt_counter scope n.0.key n.1)) (counter_of s.stmt)

-- ---- what a body does to it

-- one of the loops is a FOR of this variable
abbrev pub counts : List ℕ → Loop → Truth
counts key (a_for name) = bytes_eq key name.key
counts key another = false

abbrev pub IsCounted : List Loop → List ℕ → Type 0
IsCounted loops key = Any (λ l. IsTrue (counts key l)) loops

-- the word that an operand is
abbrev pub word_of_root : Root → StepTrees → List PlacedName
word_of_root (Local name hash place) no_steps = (name, place) ∷ []
word_of_root (Local name hash place) (steps step more) = []
word_of_root (Named name) more = []
word_of_root (Area area bits byte bit) more = []

abbrev pub word_of_operand : OperandTree → List PlacedName
word_of_operand (operand root more place) = word_of_root root more

abbrev pub IsCountedOperand : List Loop → OperandTree → Type 0
IsCountedOperand loops o = Any (λ n. IsCounted loops n.0.key) (word_of_operand o)

-- an argument that the called block writes
abbrev pub WritesCounter : Scope → Place → List Loop → CallSite → ArgTree → Type 0
WritesCounter scope at loops s arg =
    (first_place arg.value ≡ at) × IsTrue (goes_out_where (param_of_arg scope s arg)) × Any
    (IsCountedOperand loops) (option_to_list (operand_of arg.value))

abbrev pub DisturbsCounter : Scope → Place → Spot → Type 0
DisturbsCounter scope at s =
    Any (λ o. (place_of_operand o ≡ at) × IsCountedOperand s.loops o) (option_to_list
    (target_of s.stmt))
    ⊎ (Any (λ c. Any (WritesCounter scope at s.loops c) c.call.args) (calls_of_stmt s.stmt)
    ⊎ Any (λ n. (n.1 ≡ at) × IsCounted s.loops n.0.key) (counter_of s.stmt))

abbrev pub IsWrongCounter : ProjectTree → Place → Type 0
IsWrongCounter project at = Any (λ b. Any (λ s. IsNoCounter (scope b) at s ⊎ DisturbsCounter
    (scope b) at s) (spots_of_body b.body)) project.blocks
  where
    scope : BlockTree → Scope
    scope block = record { project = project; block = block }

-- ---- BY

-- zero, or outside the variable's type where that is known
abbrev pub IsWrongBy : Want → Literal → Type 0
IsWrongBy (this ty) literal = (literal.value ≡ pos 0) ⊎ IsTrue (not (widens
    (type_of_literal (this ty) literal.ty literal.value) ty))
IsWrongBy want literal = literal.value ≡ pos 0

abbrev pub StepsWrong : Scope → Place → StmtTree → Type 0
StepsWrong scope at (for_ name name_place first last by body place) =
    Any (λ l. (l.place ≡ at) × IsWrongBy (want_of_counter scope name name_place) l)
    (option_to_list by)
StepsWrong scope at s = ⊥

abbrev pub IsWrongStep : ProjectTree → Place → Type 0
IsWrongStep project at =
    Any (λ b. Any (λ s. StepsWrong (record { project = project; block = b }) at s.stmt)
    (spots_of_body b.body)) project.blocks

-- ---- EXIT and CONTINUE

abbrev pub LeavesNothing : Place → Spot → Type 0
LeavesNothing at s = (s.loops ≡ []) × ((s.stmt ≡ exit_ at) ⊎ (s.stmt ≡ continue_ at))

abbrev pub IsOutsideLoop : ProjectTree → Place → Type 0
IsOutsideLoop project at = Any (λ b. Any (LeavesNothing at) (spots_of_body b.body)) project.blocks
