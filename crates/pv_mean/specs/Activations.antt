-- Activations: a block at work, with the first visible cell of its instance; and where the names in it begin. An unquoted word
-- names a declaration of the block, a function's value, or a block; a quoted or numbered name a block or a symbol.
use Rattle.std.specs.Prelude.{ℕ, ◌+◌, ◌/◌, nat_le, List, length, replicate, Bool as Truth, if◌then◌else◌, Option, Some, None, is_some, ℤ}
use Rattle.pv_word.specs.declared.types.Ty.{Ty}
use Rattle.pv_types.specs.Tree.{TypeTree, plain, array, structure, named, unread, VarTree}
use Rattle.pv_types.specs.View.{section_of, start_of}
use Rattle.pv_types.specs.Leaves.{start_value}
use Rattle.pv_tree.specs.declared.expr.Area.{Area}
use Rattle.pv_tree.specs.declared.expr.Root.{Root}
use Rattle.pv_tree.specs.declared.expr.Root.TheVariants.{Local, Named, Area as InArea}
use Rattle.pv_tree.specs.Tree.{OperandTree, operand, BlockTree}
use Rattle.pv_tree.specs.Scopes.{SymbolTree, Scope, is_const, is_of_instance, is_stl, first_block, first_var, first_symbol, own_value}
use Rattle.pv_tree.specs.Things.{type_of_bits, quoted_value}
use Rattle.pv_mean.specs.Layout.{Laid, laid_among, size_among, is_brief_in, is_db, data_type}
use Rattle.pv_mean.specs.Cells.{stl_types}
use Rattle.pv_mean.specs.Sources.{Source, data_block_first, byte_number}
use Rattle.pv_mean.specs.Spots.{Spot, visible, brief, bit, bytes, fixed, nowhere}

pub record Activation : Type 0 where
  pub block : BlockTree
  -- the first visible cell of a function block's instance
  pub first : ℕ

abbrev pub scope_in : Source → Activation → Scope
scope_in source act = record { project = source.project; block = act.block }

-- ---- the activation's brief cells: variables, a function's value, and what an STL block works with

abbrev pub value_number : Source → BlockTree → ℕ
value_number source block = size_among source.project (is_brief_in block) block.vars

abbrev pub brief_count : Source → BlockTree → ℕ
brief_count source block =
    value_number source block + (if is_some block.value then 1 else 0)
    + (if is_stl block.body then length stl_types else 0)

-- at the start of an activation none has a value
abbrev pub unset_brief : Source → BlockTree → List (Option ℤ)
unset_brief source block = replicate (brief_count source block) None

-- ---- where names begin

-- a part of the visible cells or of the brief ones, into which steps may lead; or one spot
pub data Begins : Type 0 where
  in_visible : Laid → Begins
  in_brief : Laid → Begins
  at : Spot → Begins

abbrev pub visible_where : Option Laid → Begins
visible_where None = at nowhere
visible_where (Some laid) = in_visible laid

abbrev pub brief_where : Option Laid → Begins
brief_where None = at nowhere
brief_where (Some laid) = in_brief laid

-- a variable or constant of the block
abbrev pub variable_begins : Source → Activation → List ℕ → VarTree → Begins
variable_begins source act key v =
    if is_const (section_of v) then at (fixed (start_value (start_of v)))
    else (if is_brief_in act.block (section_of v)
    then brief_where (laid_among source.project (is_brief_in act.block) act.block.vars key 0)
    else visible_where (laid_among source.project is_of_instance act.block.vars key act.first))

-- a data block; no other block is a value or has fields
abbrev pub block_begins : Source → BlockTree → Begins
block_begins source b =
    if is_db b.kind
    then in_visible (record { ty = data_type b; first = data_block_first source b.name.key })
    else at nowhere

-- an address, as a value of a type
abbrev pub address_spot : Source → Ty → Area → ℕ → ℕ → ℕ → Spot
address_spot source ty area bits byte n =
    if nat_le bits 1 then bit (byte_number source area byte) n
    else bytes ty (byte_number source area byte) (bits / 8)

abbrev pub symbol_at : Source → Ty → OperandTree → Spot
symbol_at source ty (operand (InArea area bits byte n) more place) =
    address_spot source ty area bits byte n
symbol_at source ty (operand (Local name hash name_place) more place) = nowhere
symbol_at source ty (operand (Named name) more place) = nowhere

abbrev pub variable_or : Source → Activation → List ℕ → Option VarTree → Begins → Begins
variable_or source act key None other = other
variable_or source act key (Some v) other = variable_begins source act key v

abbrev pub value_or : Source → Activation → Option Ty → Begins → Begins
value_or source act None other = other
value_or source act (Some ty) other = at (brief ty (value_number source act.block))

abbrev pub block_or : Source → Option BlockTree → Begins → Begins
block_or source None other = other
block_or source (Some b) other = block_begins source b

abbrev pub symbol_or_none : Source → Option SymbolTree → Begins
symbol_or_none source None = at nowhere
symbol_or_none source (Some s) = at (symbol_at source s.ty s.at)

abbrev pub word_begins : Source → Activation → List ℕ → Truth → Begins
word_begins source act key hash =
    variable_or source act key (first_var act.block.vars key)
    (value_or source act (own_value act.block key hash)
    (if hash then at nowhere else block_or source (first_block source.project.blocks key)
    (at nowhere)))

abbrev pub name_begins : Source → Activation → List ℕ → Begins
name_begins source act key =
    value_or source act (quoted_value act.block key)
    (block_or source (first_block source.project.blocks key)
    (symbol_or_none source (first_symbol source.project.symbols key)))

-- what an operand begins with
abbrev pub root_begins : Source → Activation → Root → Begins
root_begins source act (Local name hash place) = word_begins source act name.key hash
root_begins source act (Named name) = name_begins source act name.key
root_begins source act (InArea area bits byte n) =
    at (address_spot source (type_of_bits bits) area bits byte n)

-- ---- spots of parts

-- a part of a simple type is a spot; a whole array, structure or instance is none
abbrev pub spot_by : (Ty → ℕ → Spot) → TypeTree → ℕ → Spot
spot_by make (plain ty) n = make ty n
spot_by make (array low high of place) n = nowhere
spot_by make (structure vars) n = nowhere
spot_by make (named name place) n = nowhere
spot_by make unread n = nowhere

abbrev pub spot_of : Begins → Spot
spot_of (in_visible laid) = spot_by (λ ty n. visible n) laid.ty laid.first
spot_of (in_brief laid) = spot_by brief laid.ty laid.first
spot_of (at spot) = spot

-- the first visible cell of what begins there; for a part of the brief cells it doesn't matter
abbrev pub first_visible : Begins → ℕ
first_visible (in_visible laid) = laid.first
first_visible (in_brief laid) = 0
first_visible (at spot) = 0
