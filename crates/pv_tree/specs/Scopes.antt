-- Projects, and what a block's names are looked up in: its own declarations, the blocks of all sources, and the case's symbols.
-- Of two blocks or declarations of one name the first is meant.
use Rattle.std.specs.Prelude.{ℕ, List, [], ◌∷◌, find, bytes_eq, Bool as Truth, true, false, if◌then◌else◌, Option, Some, None, option_and_then}
use Rattle.pv_word.specs.declared.types.Ty.{Ty}
use Rattle.pv_types.specs.declared.name.Name.{Name}
use Rattle.pv_types.specs.declared.declaration.Section.{Section}
use Rattle.pv_types.specs.declared.declaration.Section.TheVariants.{Input, Output, InOut, Static, Temp, Const}
use Rattle.pv_types.specs.Tree.{VarTree}
use Rattle.pv_types.specs.View.{name_of}
use Rattle.pv_tree.specs.declared.block.BlockKind.{BlockKind}
use Rattle.pv_tree.specs.declared.block.BlockKind.TheVariants.{Fb, Fc, Ob, Db, Udt}
use Rattle.pv_tree.specs.Tree.{OperandTree, BlockTree, BodyTree, scl, stl, starts}

-- a name of the case for an area operand, read as a value of a type
pub record SymbolTree : Type 0 where
  pub name : Name
  pub at : OperandTree
  pub ty : Ty

-- the blocks of all sources in their order, and the case's symbols
pub record ProjectTree : Type 0 where
  pub blocks : List BlockTree
  pub symbols : List SymbolTree

-- a block of a project, in which names are looked up
pub record Scope : Type 0 where
  pub project : ProjectTree
  pub block : BlockTree

-- two keys are the same
abbrev pub has_key : List ℕ → Name → Truth
has_key key name = bytes_eq key name.key

abbrev pub first_block : List BlockTree → List ℕ → Option BlockTree
first_block blocks key = find (λ b. has_key key b.name) blocks

abbrev pub first_var : List VarTree → List ℕ → Option VarTree
first_var vars key = find (λ v. has_key key (name_of v)) vars

abbrev pub first_symbol : List SymbolTree → List ℕ → Option SymbolTree
first_symbol symbols key = find (λ s. has_key key s.name) symbols

-- kinds of blocks
abbrev pub is_fb : BlockKind → Truth
is_fb Fb = true
is_fb Fc = false
is_fb Ob = false
is_fb (Db of) = false
is_fb Udt = false

abbrev pub is_fc : BlockKind → Truth
is_fc Fb = false
is_fc Fc = true
is_fc Ob = false
is_fc (Db of) = false
is_fc Udt = false

abbrev pub is_ob : BlockKind → Truth
is_ob Fb = false
is_ob Fc = false
is_ob Ob = true
is_ob (Db of) = false
is_ob Udt = false

-- function blocks and named structures are types
abbrev pub is_type : BlockKind → Truth
is_type Fb = true
is_type Fc = false
is_type Ob = false
is_type (Db of) = false
is_type Udt = true

abbrev pub is_stl : BodyTree → Truth
is_stl (scl statements) = false
is_stl (stl instructions) = true
is_stl (starts values) = false

abbrev pub is_const : Section → Truth
is_const Input = false
is_const Output = false
is_const InOut = false
is_const Static = false
is_const Temp = false
is_const Const = true

-- an instance has no temporary variables and no constants of its block
abbrev pub is_of_instance : Section → Truth
is_of_instance Input = true
is_of_instance Output = true
is_of_instance InOut = true
is_of_instance Static = true
is_of_instance Temp = false
is_of_instance Const = false

-- the block that is the type of this name
abbrev pub block_where : (BlockTree → Truth) → BlockTree → Option BlockTree
block_where test block = if test block then Some block else None

abbrev pub type_named : ProjectTree → List ℕ → Option BlockTree
type_named project key =
    option_and_then (block_where (λ b. is_type b.kind)) (first_block project.blocks key)

-- the name of the output that a function's value is in STL: ret_val
abbrev pub value_key : List ℕ
value_key = 114 ∷ 101 ∷ 116 ∷ 95 ∷ 118 ∷ 97 ∷ 108 ∷ []

-- the type of the value that a name means in a function: in SCL the function's own name, unless `#` stands before it, and in
-- STL RET_VAL with `#` or without
abbrev pub own_value : BlockTree → List ℕ → Truth → Option Ty
own_value block key hash =
    if is_stl block.body then (if bytes_eq key value_key then block.value else None)
    else (if hash then None else (if has_key key block.name then block.value else None))
