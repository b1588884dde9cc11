-- What an expression needs around it: a block of a project that keeps the rules, in a source with its table; each literal in the type that
-- it takes; and a cell for each byte of an address.
use Rattle.std.specs.Prelude.{◌≡◌, ℕ, List, Contains, ⊤, false, Option, Some, None}
use Rattle.std.specs.List.{AllByRecursion}
use Rattle.pv_word.specs.declared.types.Ty.{Ty}
use Rattle.pv_word.specs.Types.{InRange, width_of}
use Rattle.pv_tree.specs.declared.expr.Area.{Area}
use Rattle.pv_tree.specs.declared.expr.Area.TheVariants.{I, Q, M}
use Rattle.pv_tree.specs.declared.expr.Root.TheVariants.{Local, Named, Area as InArea}
use Rattle.pv_tree.specs.Tree.{ExprTree, OperandTree, operand, BlockTree}
use Rattle.pv_tree.specs.LiteralTypes.{Want, type_of_literal}
use Rattle.pv_tree.specs.Sorts.{own_type}
use Rattle.pv_tree.specs.Things.{type_of_bits}
use Rattle.pv_tree.specs.Types.{Written, literal_of, sort_of_operand, type_of}
use Rattle.pv_tree.specs.Parts.{Part, parts_of, parts_of_operand, reads_of_parts}
use Rattle.pv_tree.specs.Rules.{KeepsRules}
use Rattle.pv_tree.specs.Rules.Addresses.{is_wrong_operand}
use Rattle.pv_mean.specs.AreaBytes.{Bytes, bytes_of, bytes_of_operand}
use Rattle.pv_mean.specs.Sources.{Source}
use Rattle.pv_variables.specs.Correct.{IsEntered}
use Rattle.pv_laws_types.specs.Typed.{SymbolsSuit, HasTable}
use Rattle.pv_lower.specs.Lowered.{scope_of}

-- ---- addresses

abbrev pub bytes_in : Bytes → Area → List ℕ
bytes_in bytes I = bytes.inputs
bytes_in bytes Q = bytes.outputs
bytes_in bytes M = bytes.flags

-- each byte of the address that an operand is has a cell
abbrev pub HasBytes : Bytes → OperandTree → Type 0
HasBytes bytes o = (area : Area) (n : ℕ) → Contains (bytes_of_operand area o) n → Contains (bytes_in bytes area) n

-- and it is one of its area
pub record IsThere (bytes : Bytes) (o : OperandTree) : Type 0 where
  pub cells : HasBytes bytes o
  pub right : is_wrong_operand o ≡ false

-- an address that isn't a symbol's is as wide as the type that it is read as: one, eight, sixteen or thirty-two bits
abbrev pub IsWide : OperandTree → Type 0
IsWide (operand (InArea area bits byte n) more place) = bits ≡ width_of (type_of_bits bits)
IsWide (operand (Local name hash name_place) more place) = ⊤
IsWide (operand (Named name) more place) = ⊤

pub record IsAddressed (bytes : Bytes) (o : OperandTree) : Type 0 where
  pub cells : HasBytes bytes o
  pub wide : IsWide o

-- ---- the block

-- symbols are addresses as wide as their types, whose bytes have cells; and a block that is entered has neither parameters that a caller
-- hands over nor a value
pub record IsLaidOut (source : Source) (block : BlockTree) : Type 0 where
  pub rules : KeepsRules source.project
  pub there : Contains source.project.blocks block
  pub table : HasTable source
  -- the bytes that have cells are those that the project's operands, its symbols and patterns name
  pub patterns : List OperandTree
  pub named : source.bytes ≡ bytes_of source.project patterns
  pub symbols : SymbolsSuit source.project
  pub symbol_addresses : AllByRecursion (λ s. IsThere source.bytes s.at) source.project.symbols
  pub entered : IsEntered source block

-- ---- literals

-- a literal lies in the type that it takes by what is wanted of it
abbrev pub WrittenLies : Want → Option Written → Type 0
WrittenLies want None = ⊤
WrittenLies want (Some w) = InRange (type_of_literal want w.ty w.value) w.value

abbrev pub LiteralLies : Part → Type 0
LiteralLies p = WrittenLies p.want (literal_of p.expr)

-- ---- an expression's parts, those in indexes too

pub record ArePartsFit (source : Source) (parts : List Part) : Type 0 where
  pub literals : AllByRecursion LiteralLies parts
  pub addresses : AllByRecursion (IsAddressed source.bytes) (reads_of_parts parts)

-- an expression of this type by what is wanted of it
pub record IsFit (source : Source) (block : BlockTree) (want : Want) (e : ExprTree) (ty : Ty) : Type 0 where
  pub has_type : type_of (scope_of source block) want e ≡ Some ty
  pub parts : ArePartsFit source (parts_of (scope_of source block) want e)

-- an operand that is a value of this type
pub record IsFitOperand (source : Source) (block : BlockTree) (o : OperandTree) (ty : Ty) : Type 0 where
  pub has_type : own_type (sort_of_operand (scope_of source block) o) ≡ Some ty
  pub indexes : ArePartsFit source (parts_of_operand (scope_of source block) o)
  pub address : IsAddressed source.bytes o
