-- How variables are laid out: one cell behind another, arrays, structures and instances in place, as their leaves are. What is
-- laid out has a type and the number of its first cell; its fields and elements follow by their sizes.
use Rattle.std.specs.Prelude.{ℕ, ◌+◌, ◌*◌, ℤ, ◌-ℤ◌, unsigned_abs, int_le, List, [], ◌∷◌, length, bytes_eq, Bool as Truth, true, false, ◌&&◌, not, if◌then◌else◌, Option, Some, None, option_and_then}
use Rattle.pv_types.specs.declared.declaration.Section.{Section}
use Rattle.pv_types.specs.declared.declaration.Section.TheVariants.{Input, Output, InOut, Static, Temp, Const}
use Rattle.pv_types.specs.Tree.{TypeTree, plain, array, structure, named, unread, VarTree, var}
use Rattle.pv_types.specs.View.{listed, fields_of}
use Rattle.pv_types.specs.Sizes.{size_of_type, size_of_named}
use Rattle.pv_tree.specs.declared.block.BlockKind.{BlockKind}
use Rattle.pv_tree.specs.declared.block.BlockKind.TheVariants.{Fb, Fc, Ob, Db, Udt}
use Rattle.pv_tree.specs.Tree.{StepTree, field, index, StepTrees, no_steps, steps, BlockTree}
use Rattle.pv_tree.specs.Scopes.{ProjectTree, is_fb, is_const, is_of_instance, type_named}
use Rattle.pv_tree.specs.NamedTypes.{types_of_project}
use Rattle.pv_tree.specs.Types.{literal_of}

-- ---- types and their sizes

-- how many cells a named type has, and a type
abbrev pub size_of_name : ProjectTree → List ℕ → ℕ
size_of_name project key =
    size_of_named (types_of_project project) (length (types_of_project project)) key

abbrev pub size_in : ProjectTree → TypeTree → ℕ
size_in project ty = size_of_type (size_of_name project) ty

-- ---- variables

-- a type, and the number of the cell from which on it is laid out
pub record Laid : Type 0 where
  pub ty : TypeTree
  pub first : ℕ

-- the variable of this key among those whose section passes the test: behind the cells of those before it
abbrev pub laid_among : ProjectTree → (Section → Truth) → List VarTree → List ℕ → ℕ → Option Laid
laid_among project test [] key first = None
laid_among project test (var name section ty start place ∷ more) key first =
    if test section
    then (if bytes_eq key name.key then Some (record { ty = ty; first = first })
    else laid_among project test more key (first + size_in project ty))
    else laid_among project test more key first

-- how many cells these variables have
abbrev pub size_among : ProjectTree → (Section → Truth) → List VarTree → ℕ
size_among project test [] = 0
size_among project test (var name section ty start place ∷ more) =
    if test section then size_in project ty + size_among project test more
    else size_among project test more

abbrev pub is_temp : Section → Truth
is_temp Input = false
is_temp Output = false
is_temp InOut = false
is_temp Static = false
is_temp Temp = true
is_temp Const = false

-- ---- fields and elements

-- the field of this key
abbrev pub field_among : ProjectTree → (Section → Truth) → Option BlockTree → List ℕ → ℕ → Option Laid
field_among project test None key first = None
field_among project test (Some b) key first = laid_among project test b.vars key first

abbrev pub field_from : ProjectTree → TypeTree → ℕ → List ℕ → Option Laid
field_from project (plain ty) first key = None
field_from project (array low high of place) first key = None
field_from project (structure vars) first key =
    laid_among project (λ s. true) (fields_of vars) key first
field_from project (named name place) first key =
    field_among project is_of_instance (type_named project name.key) key first
field_from project unread first key = None

abbrev pub field_laid : ProjectTree → Laid → List ℕ → Option Laid
field_laid project laid key = field_from project laid.ty laid.first key

-- the element at an index, where it lies within the bounds
abbrev pub element_from : ProjectTree → TypeTree → ℕ → ℤ → Option Laid
element_from project (plain ty) first i = None
element_from project (array low high of place) first i =
    if int_le low i && int_le i high
    then Some (record { ty = of; first = first + unsigned_abs (i -ℤ low) * size_in project of })
    else None
element_from project (structure vars) first i = None
element_from project (named name place) first i = None
element_from project unread first i = None

abbrev pub element_laid : ProjectTree → Laid → ℤ → Option Laid
element_laid project laid i = element_from project laid.ty laid.first i

-- what steps with literal indexes lead to, as they stand in a data block's values
abbrev pub laid_at_step : ProjectTree → Laid → StepTree → Option Laid
laid_at_step project laid (field name place) = field_laid project laid name.key
laid_at_step project laid (index e place) =
    option_and_then (λ w. element_laid project laid w.value) (literal_of e)

abbrev pub laid_behind : ProjectTree → Option Laid → StepTrees → Option Laid
laid_behind project laid no_steps = laid
laid_behind project laid (steps step more) =
    laid_behind project (option_and_then (λ l. laid_at_step project l step) laid) more

-- ---- blocks

abbrev pub is_db : BlockKind → Truth
is_db Fb = false
is_db Fc = false
is_db Ob = false
is_db (Db of) = true
is_db Udt = false

-- what a data block holds: its own fields, or an instance of its type
abbrev pub held_by : BlockKind → List VarTree → TypeTree
held_by Fb vars = unread
held_by Fc vars = unread
held_by Ob vars = unread
held_by (Db None) vars = structure (listed vars)
held_by (Db (Some of)) vars = named of.0 of.1
held_by Udt vars = unread

abbrev pub data_type : BlockTree → TypeTree
data_type block = held_by block.kind block.vars

-- the variables that live within one activation: the temporary ones of a function block, and all of a function or an OB
abbrev pub is_brief_in : BlockTree → Section → Truth
is_brief_in block section = if is_fb block.kind then is_temp section else not (is_const section)

-- how many visible cells an entered block has of its own: a function block's instance
abbrev pub entry_size : ProjectTree → BlockTree → ℕ
entry_size project block =
    if is_fb block.kind then size_among project is_of_instance block.vars else 0

-- the number of the first cell of the data block of this key, where those of the first block begin at this number; behind all of
-- them where there is none
abbrev pub data_first : ProjectTree → List BlockTree → List ℕ → ℕ → ℕ
data_first project [] key first = first
data_first project (b ∷ more) key first =
    if is_db b.kind
    then (if bytes_eq key b.name.key then first
    else data_first project more key (first + size_in project (data_type b)))
    else data_first project more key first

-- how many cells all data blocks have
abbrev pub data_size : ProjectTree → List BlockTree → ℕ
data_size project [] = 0
data_size project (b ∷ more) =
    if is_db b.kind then size_in project (data_type b) + data_size project more
    else data_size project more
