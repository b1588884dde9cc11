-- Calls: which tokens spell them in SCL and in STL, and which are well formed.
use Rattle.std.specs.Prelude.{◌≡◌, Bool, true, false, List, [], ◌∷◌, All, Option, Some, None}
use Rattle.pv_place.specs.declared.place.Place.{Place}
use Rattle.pv_types.specs.declared.name.Name.{Name}
use Rattle.pv_tree.specs.Tree.{PlacedName, ArgTree, CallPlain}
use Rattle.pv_tree.specs.Lexemes.{Lexeme, Form, first_place, nothing, never, ◌⨾◌, ◌∣◌, when, sign, sign_at, listed}
use Rattle.pv_tree.specs.Words.{SpellsWord, SpellsName, IsFree}
use Rattle.pv_tree.specs.Expressions.{SpellsExpr, IsFormedExpr}

-- `:=` and `=>` say the same
abbrev pub SpellsArrow : Place → Form
SpellsArrow place = sign_at ":=" place ∣ sign_at "=>" place

-- an argument with its word, and one without, whose place is that of its first token
abbrev pub SpellsNamed : ArgTree → Option PlacedName → Form
SpellsNamed arg (Some word) = SpellsWord word.0 word.1 ⨾ SpellsArrow arg.place
    ⨾ SpellsExpr arg.value
SpellsNamed arg None = never

abbrev pub SpellsArg : ArgTree → Form
SpellsArg arg = SpellsNamed arg arg.name

pub record IsAlone (arg : ArgTree) (tokens : List Lexeme) : Type 0 where
  pub unnamed : arg.name ≡ None
  pub value : SpellsExpr arg.value tokens
  pub at : first_place tokens ≡ Some arg.place

-- the arguments between parentheses: none, one without a word, or some with words
abbrev pub SpellsArgs : List ArgTree → Form
SpellsArgs [] = nothing
SpellsArgs (arg ∷ []) = IsAlone arg ∣ SpellsArg arg
SpellsArgs (arg ∷ others) = listed SpellsArg (arg ∷ others)

-- the called name; the first token, `#` or the name's own, has this place
abbrev pub SpellsCalled : Bool → Name → Place → Place → Form
SpellsCalled true name at place = sign_at "#" place ⨾ SpellsName name at
SpellsCalled false name at place = when (place ≡ at) (SpellsName name at)

-- the second name, behind this sign
abbrev pub SpellsBase : Form → Option PlacedName → Form
SpellsBase before None = nothing
SpellsBase before (Some base) = before ⨾ SpellsName base.0 base.1

-- a call in SCL
abbrev pub SpellsCall : CallPlain → Form
SpellsCall call =
    SpellsCalled call.hash call.name call.name_place call.place ⨾ SpellsBase (sign ".") call.base
    ⨾ sign "(" ⨾ SpellsArgs call.args ⨾ sign ")"

-- ---- STL

-- the called name behind CALL
abbrev pub SpellsCalledStl : Bool → Name → Place → Form
SpellsCalledStl true name at = sign "#" ⨾ SpellsName name at
SpellsCalledStl false name at = SpellsName name at

-- arguments, all with words, in parentheses that are left out where there is none
abbrev pub SpellsArgsStl : List ArgTree → Form
SpellsArgsStl [] = nothing
SpellsArgsStl (arg ∷ others) = sign "(" ⨾ listed SpellsArg (arg ∷ others) ⨾ sign ")"

-- what stands behind CALL, whose place is the call's
abbrev pub SpellsCallStl : CallPlain → Form
SpellsCallStl call =
    SpellsCalledStl call.hash call.name call.name_place ⨾ SpellsBase (sign ",") call.base
    ⨾ SpellsArgsStl call.args

-- ---- well-formed calls

abbrev pub IsFreeOption : Option PlacedName → Type 0
IsFreeOption None = Unit {0}
IsFreeOption (Some named) = IsFree named.0

-- a called name behind `#` is any
abbrev pub IsFreeBehind : Bool → Name → Type 0
IsFreeBehind true name = Unit {0}
IsFreeBehind false name = IsFree name

pub record IsFormedArg (arg : ArgTree) : Type 0 where
  pub name : IsFreeOption arg.name
  pub value : IsFormedExpr arg.value

-- a call in SCL, whose second name stands behind `.`
pub record IsFormedCall (call : CallPlain) : Type 0 where
  pub name : IsFreeBehind call.hash call.name
  pub args : All IsFormedArg call.args

-- a call in STL, whose second name stands behind a comma
pub record IsFormedCallStl (call : CallPlain) : Type 0 where
  pub as_in_scl : IsFormedCall call
  pub base : IsFreeOption call.base
