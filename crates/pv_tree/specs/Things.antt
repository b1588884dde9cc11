-- What a name and the steps behind it mean in a block. An unquoted word names a declaration of its own block where there is one,
-- else a block; behind `#` it names a declaration alone; a quoted or numbered name names a block where there is one, else a
-- symbol of the case.
use Rattle.std.specs.Prelude.{ℕ, ◌+◌, ◌-◌, ◌/◌, List, filter, nat_le, Bool as Truth, true, false, ◌&&◌, if◌then◌else◌, Option, Some, None}
use Rattle.pv_word.specs.declared.types.Ty.{Ty}
use Rattle.pv_word.specs.declared.types.Ty.TheVariants.{Bool, Byte, Word, Dword}
use Rattle.pv_place.specs.declared.place.Place.{Place}
use Rattle.pv_types.specs.Tree.{TypeTree, plain, array, structure, named, unread, VarTree}
use Rattle.pv_types.specs.View.{fields_of, section_of, declared_type_of}
use Rattle.pv_tree.specs.declared.expr.Root.{Root}
use Rattle.pv_tree.specs.declared.expr.Root.TheVariants.{Local, Named, Area}
use Rattle.pv_tree.specs.declared.block.BlockKind.{BlockKind}
use Rattle.pv_tree.specs.declared.block.BlockKind.TheVariants.{Fb, Fc, Ob, Db, Udt}
use Rattle.pv_tree.specs.Tree.{ExprTree, lit, read, unary, binary, std, paren, OperandTree, operand, StepTree, field, index, StepTrees, no_steps, steps, BlockTree}
use Rattle.pv_tree.specs.Scopes.{SymbolTree, Scope, is_stl, first_block, first_var, first_symbol, is_const, is_of_instance, type_named, own_value}

-- what is meant: what holds a value or values of a type; a constant; a block. Or why nothing is: a name that isn't declared or a
-- field that is missing, at its place; an index at what is no array, at the index's first token; a use of a variable of
-- DATE_AND_TIME, at its name; or what lies in a type that isn't declared, or an address that there isn't
pub data Thing : Type 0 where
  part : TypeTree → Thing
  constant : TypeTree → Thing
  a_block : BlockTree → Thing
  no_name : Place → Thing
  no_array : Place → Thing
  a_date : Place → Thing
  untold : Thing

-- the place of an expression's first token
abbrev pub place_of_operand : OperandTree → Place
place_of_operand (operand root more place) = place

abbrev pub first_place : ExprTree → Place
first_place (lit ty value place) = place
first_place (read o) = place_of_operand o
first_place (unary op place arg) = place
first_place (binary op place left right) = first_place left
first_place (std function place args) = place
first_place (paren place inner) = place

-- the type that an address is read as: a bit is a BOOL, and eight, sixteen and thirty-two are BYTE, WORD and DWORD
abbrev pub type_of_bits : ℕ → Ty
type_of_bits bits = if nat_le bits 1 then Bool else (if nat_le bits 8 then Byte else
    (if nat_le bits 16 then Word else Dword))

-- the last of the bytes that an address has
abbrev pub last_byte : ℕ → ℕ → ℕ
last_byte bits byte = byte + (bits - 1) / 8

-- an area has 65,536 bytes, and a byte eight bits
abbrev pub is_address : ℕ → ℕ → ℕ → Truth
is_address bits byte bit = nat_le bit 7 && nat_le (last_byte bits byte) 65535

-- a variable is what holds a value, and a constant is none
abbrev pub thing_of_var : VarTree → Thing
thing_of_var v =
    if is_const (section_of v) then constant (declared_type_of v) else part (declared_type_of v)

abbrev pub thing_of_block : Option BlockTree → Thing → Thing
thing_of_block None other = other
thing_of_block (Some b) other = a_block b

abbrev pub thing_of_value : Option Ty → Thing → Thing
thing_of_value None other = other
thing_of_value (Some ty) other = part (plain ty)

abbrev pub thing_of_variable : Option VarTree → Thing → Thing
thing_of_variable None other = other
thing_of_variable (Some v) other = thing_of_var v

-- what a word means, without and behind `#`
abbrev pub thing_of_word : Scope → List ℕ → Truth → Place → Thing
thing_of_word scope key hash place =
    thing_of_variable (first_var scope.block.vars key)
    (thing_of_value (own_value scope.block key hash)
    (if hash then no_name place else thing_of_block (first_block scope.project.blocks key)
    (no_name place)))

-- what a symbol stands for
abbrev pub symbol_where : Option SymbolTree → Place → Thing
symbol_where None place = no_name place
symbol_where (Some s) place = part (plain s.ty)

abbrev pub thing_of_symbol : Scope → List ℕ → Place → Thing
thing_of_symbol scope key place = symbol_where (first_symbol scope.project.symbols key) place

-- in SCL a function's own name is its value however it is written; in STL a quoted or numbered name is never RET_VAL
abbrev pub quoted_value : BlockTree → List ℕ → Option Ty
quoted_value block key = if is_stl block.body then None else own_value block key false

-- what a quoted or numbered name means
abbrev pub thing_of_name : Scope → List ℕ → Place → Thing
thing_of_name scope key place =
    thing_of_value (quoted_value scope.block key)
    (thing_of_block (first_block scope.project.blocks key) (thing_of_symbol scope key place))

-- what an operand begins with
abbrev pub thing_of_root : Scope → Root → Place → Thing
thing_of_root scope (Local name hash place) first = thing_of_word scope name.key hash place
thing_of_root scope (Named name) first = thing_of_name scope name.key first
thing_of_root scope (Area area bits byte bit) first =
    if is_address bits byte bit then part (plain (type_of_bits bits)) else untold

-- the fields of an instance of a block, or of a named structure
abbrev pub fields_of_type : BlockTree → List VarTree
fields_of_type block = filter (λ v. is_of_instance (section_of v)) block.vars

abbrev pub field_where : Option VarTree → Place → Thing
field_where None place = no_name place
field_where (Some v) place = part (declared_type_of v)

abbrev pub field_among : List VarTree → List ℕ → Place → Thing
field_among vars key place = field_where (first_var vars key) place

abbrev pub field_within : Option BlockTree → List ℕ → Place → Thing
field_within None key place = untold
field_within (Some b) key place = field_among (fields_of_type b) key place

abbrev pub field_of_named : Scope → List ℕ → List ℕ → Place → Thing
field_of_named scope type_key key place = field_within (type_named scope.project type_key) key place

-- the field of this name in a type, and in a block: a data block has the fields of its type, or its own
abbrev pub field_of_type : Scope → TypeTree → List ℕ → Place → Thing
field_of_type scope (plain ty) key place = no_name place
field_of_type scope (array low high of at) key place = no_name place
field_of_type scope (structure vars) key place = field_among (fields_of vars) key place
field_of_type scope (named name at) key place = field_of_named scope name.key key place
field_of_type scope unread key place = no_name place

abbrev pub field_of_kind : Scope → BlockKind → List VarTree → List ℕ → Place → Thing
field_of_kind scope Fb vars key place = no_name place
field_of_kind scope Fc vars key place = no_name place
field_of_kind scope Ob vars key place = no_name place
field_of_kind scope (Db None) vars key place = field_among vars key place
field_of_kind scope (Db (Some type_name)) vars key place =
    field_of_named scope type_name.0.key key place
field_of_kind scope Udt vars key place = no_name place

abbrev pub field_of_thing : Scope → Thing → List ℕ → Place → Thing
field_of_thing scope (part ty) key place = field_of_type scope ty key place
field_of_thing scope (constant ty) key place = no_name place
field_of_thing scope (a_block b) key place = field_of_kind scope b.kind b.vars key place
field_of_thing scope (no_name at) key place = no_name at
field_of_thing scope (no_array at) key place = no_array at
field_of_thing scope (a_date at) key place = a_date at
field_of_thing scope untold key place = untold

-- an element of what is an array; the place is that of the index's first token
abbrev pub no_array_where : Option BlockTree → Place → Thing
no_array_where None place = untold
no_array_where (Some b) place = no_array place

abbrev pub element_of_type : Scope → TypeTree → Place → Thing
element_of_type scope (plain ty) place = no_array place
element_of_type scope (array low high of at) place = part of
element_of_type scope (structure vars) place = no_array place
element_of_type scope (named name at) place =
    no_array_where (type_named scope.project name.key) place
element_of_type scope unread place = no_array place

abbrev pub element_of_thing : Scope → Thing → Place → Thing
element_of_thing scope (part ty) place = element_of_type scope ty place
element_of_thing scope (constant ty) place = no_array place
element_of_thing scope (a_block b) place = no_array place
element_of_thing scope (no_name at) place = no_name at
element_of_thing scope (no_array at) place = no_array at
element_of_thing scope (a_date at) place = a_date at
element_of_thing scope untold place = untold

-- DATE_AND_TIME, and arrays of it
abbrev pub is_date : TypeTree → Truth
is_date (plain ty) = false
is_date (array low high of place) = is_date of
is_date (structure vars) = false
is_date (named name place) = false
is_date unread = true

-- a variable of DATE_AND_TIME, named last at this place, is in use where it is reached, also as a whole array
abbrev pub dated_type : Place → TypeTree → Thing
dated_type name unread = a_date name
dated_type name (plain ty) = part (plain ty)
dated_type name (array low high of at) =
    if is_date of then a_date name else part (array low high of at)
dated_type name (structure vars) = part (structure vars)
dated_type name (named n at) = part (named n at)

abbrev pub dated : Place → Thing → Thing
dated name (part ty) = dated_type name ty
dated name (constant ty) = constant ty
dated name (a_block b) = a_block b
dated name (no_name at) = no_name at
dated name (no_array at) = no_array at
dated name (a_date at) = a_date at
dated name untold = untold

-- what one step leads to, and the place of the last name behind it
abbrev pub thing_at : Scope → Thing → StepTree → Thing
thing_at scope thing (field name place) = field_of_thing scope thing name.key place
thing_at scope thing (index e place) = element_of_thing scope thing (first_place e)

abbrev pub last_behind : Place → StepTree → Place
last_behind last (field name place) = place
last_behind last (index e place) = last

-- what the steps lead to from a thing whose last name stands at this place
abbrev pub thing_behind : Scope → Place → Thing → StepTrees → Thing
thing_behind scope last thing no_steps = dated last thing
thing_behind scope last thing (steps step more) =
    thing_behind scope (last_behind last step) (thing_at scope (dated last thing) step) more

-- the place of the name that an operand begins with
abbrev pub root_place : Root → Place → Place
root_place (Local name hash place) first = place
root_place (Named name) first = first
root_place (Area area bits byte bit) first = first

-- what an operand means
abbrev pub thing_of : Scope → OperandTree → Thing
thing_of scope (operand root more place) =
    thing_behind scope (root_place root place) (thing_of_root scope root place) more
