-- What the texts of a pattern say. A text is at fault where it reads as no expression, where its expression breaks a rule, reads a
-- brief cell or isn't BOOL; the first of these counts, and of several texts the first that is at fault.
use Rattle.std.specs.Prelude.{◌≡◌, ◌⊎◌, ℕ, zero, suc, List, [], ◌∷◌, ◌++◌, map, filter, All, Contains, Bool as Truth, false, Option, Some, None, IsTrue}
use Rattle.std.specs.List.{list_any}
use Rattle.pv_word.specs.declared.types.Ty.TheVariants.{Bool}
use Rattle.pv_place.specs.declared.place.Place.{Place}
use Rattle.pv_types.specs.Tree.{VarTree}
use Rattle.pv_types.specs.View.{section_of}
use Rattle.pv_lex.specs.declared.token.Token.{Token}
use Rattle.pv_lex.specs.declared.token.Language.TheVariants.{Scl}
use Rattle.pv_lex.specs.Tokens.{AreTokens}
use Rattle.pv_tree.specs.declared.expr.Area.{Area as In}
use Rattle.pv_tree.specs.declared.expr.Area.TheVariants.{I, Q, M}
use Rattle.pv_tree.specs.declared.expr.Root.{Root}
use Rattle.pv_tree.specs.declared.expr.Root.TheVariants.{Local, Named, Area}
use Rattle.pv_tree.specs.Tree.{ExprTree, OperandTree, operand, no_steps, BlockTree}
use Rattle.pv_tree.specs.Operands.{operands_in}
use Rattle.pv_tree.specs.Lexemes.{lexemes_of}
use Rattle.pv_tree.specs.LiteralTypes.{nothing}
use Rattle.pv_tree.specs.Scopes.{Scope, first_var}
use Rattle.pv_tree.specs.Things.{is_address}
use Rattle.pv_tree.specs.Types.{type_of}
use Rattle.pv_tree.specs.Reading.{IsReadExpression}
use Rattle.pv_tree.specs.Rules.{Rule, BreaksInPattern}
use Rattle.pv_tree.specs.Least.{IsLeast}
use Rattle.pv_mean.specs.Layout.{is_brief_in}
use Rattle.pv_mean.specs.AreaBytes.{Bytes, bytes_of_operand}

-- ---- texts

-- the text is this expression of SCL, with no word outside the profile in it, and nests no deeper than a source may
pub record IsTextOf (text : List ℕ) (e : ExprTree) : Type 0 where
  pub tokens : List Token
  pub cut : AreTokens Scl 0 text tokens
  pub reads : IsReadExpression (lexemes_of text tokens) e

-- ---- brief cells

-- a variable that lives for one activation: a temporary one, or any of an OB; a constant is no cell
abbrev pub is_brief_var : BlockTree → Option VarTree → Truth
is_brief_var block None = false
is_brief_var block (Some v) = is_brief_in block (section_of v)

abbrev pub is_brief_root : Scope → Root → Truth
is_brief_root scope (Local name hash place) =
    is_brief_var scope.block (first_var scope.block.vars name.key)
is_brief_root scope (Named name) = false
is_brief_root scope (Area area bits byte bit) = false

-- such a variable, or a part of one
abbrev pub is_brief_operand : Scope → OperandTree → Truth
is_brief_operand scope (operand root path place) = is_brief_root scope root

abbrev pub reads_brief : Scope → ExprTree → Truth
reads_brief scope e = list_any (is_brief_operand scope) (operands_in e)

-- ---- faults

-- why a text says nothing of a scan, in the order in which it is asked
pub data Fault : Type 0 where
  unread : Fault
  broken : Rule → Fault
  brief_cell : Fault
  no_bool : Fault

-- the expression breaks no rule
abbrev pub KeepsRules : Scope → ExprTree → Type 0
KeepsRules scope e = (rule : Rule) (at : Place) → BreaksInPattern rule scope e at → ⊥

-- the expression that is read has the fault; of rules that of the first breach: the least place, and there the least rule
abbrev pub HasFault : Scope → ExprTree → Fault → Type 0
HasFault scope e unread = ⊥
HasFault scope e (broken rule) =
    (at : Place) × IsLeast (λ r p. BreaksInPattern r scope e p) rule at
HasFault scope e brief_cell = KeepsRules scope e × IsTrue (reads_brief scope e)
HasFault scope e no_bool =
    KeepsRules scope e × (reads_brief scope e ≡ false)
    × (type_of scope nothing e ≡ Some Bool → ⊥)

-- so has the text
abbrev pub IsAtFault : Scope → List ℕ → Fault → Type 0
IsAtFault scope text unread = (e : ExprTree) → IsTextOf text e → ⊥
IsAtFault scope text fault = (e : ExprTree) × IsTextOf text e × HasFault scope e fault

-- the text says this of a scan
pub record Says (scope : Scope) (text : List ℕ) (e : ExprTree) : Type 0 where
  pub reads : IsTextOf text e
  pub keeps : KeepsRules scope e
  pub visible : reads_brief scope e ≡ false
  pub is_bool : type_of scope nothing e ≡ Some Bool

-- ---- the texts of a pattern

-- each text says the expression in its place
abbrev pub Say : Scope → List (List ℕ) → List ExprTree → Type 0
Say scope [] [] = Unit {0}
Say scope (text ∷ texts) (e ∷ es) = Says scope text e × Say scope texts es
Say scope texts es = ⊥

-- the texts before the n-th, counted from 0, say something, and it has this fault
abbrev pub FailsAt : Scope → List (List ℕ) → ℕ → Fault → Type 0
FailsAt scope [] n fault = ⊥
FailsAt scope (text ∷ texts) zero fault = IsAtFault scope text fault
FailsAt scope (text ∷ texts) (suc n) fault =
    ((e : ExprTree) × Says scope text e) × FailsAt scope texts n fault

-- ---- area bytes

-- an address that there is
abbrev pub is_address_root : Root → Truth
is_address_root (Local name hash place) = false
is_address_root (Named name) = false
is_address_root (Area area bits byte bit) = is_address bits byte bit

abbrev pub is_address_operand : OperandTree → Truth
is_address_operand (operand root path place) = is_address_root root

-- the address without what stands behind it, which names no byte more
abbrev pub alone : OperandTree → OperandTree
alone (operand root path place) = operand root no_steps place

abbrev pub addresses_in : ExprTree → List OperandTree
addresses_in e = map alone (filter is_address_operand (operands_in e))

-- the addresses that the texts name: those of each text that reads, whatever else is at fault with it
abbrev pub AreNamed : List (List ℕ) → List OperandTree → Type 0
AreNamed [] named = named ≡ []
AreNamed (text ∷ texts) named =
    ((e : ExprTree) × (others : List OperandTree) × IsTextOf text e
    × (named ≡ addresses_in e ++ others) × AreNamed texts others)
    ⊎ (((e : ExprTree) → IsTextOf text e → ⊥) × AreNamed texts named)

-- the numbers of an area's bytes that have cells
abbrev pub bytes_in : Bytes → In → List ℕ
bytes_in bytes I = bytes.inputs
bytes_in bytes Q = bytes.outputs
bytes_in bytes M = bytes.flags

-- each byte that the operand names has a cell
abbrev pub HasCells : Bytes → OperandTree → Type 0
HasCells bytes o = (area : In) → All (Contains (bytes_in bytes area)) (bytes_of_operand area o)

-- so has each that one of the texts names. Others may have cells too: what sources, symbols and other texts name
abbrev pub HaveCells : Bytes → List (List ℕ) → Type 0
HaveCells bytes texts = (text : List ℕ) (e : ExprTree) → Contains texts text → IsTextOf text e
    → All (HasCells bytes) (addresses_in e)
