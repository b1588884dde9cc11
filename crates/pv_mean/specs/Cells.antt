-- The cell table of a project: the cells of the entered function block, those of all data blocks, the named bytes of the areas,
-- and then the brief cells of each path of calls, in the order in which a walk down the text enters the calls (the interface and
-- the data blocks of the manual S7-SCL for S7-300/S7-400, "Source File Structure"; the walk is this project's own).
use Rattle.std.specs.Prelude.{ℕ, zero, suc, ℤ, pos, List, [], ◌∷◌, ◌++◌, map, flat_map, filter, length, decimal, not, if◌then◌else◌, Option, Some, None, option_to_list}
use Rattle.pv_word.specs.declared.types.Ty.{Ty}
use Rattle.pv_word.specs.declared.types.Ty.TheVariants.{Bool, Byte, Dword}
use Rattle.pv_place.specs.declared.role.Role.{Role}
use Rattle.pv_place.specs.declared.role.Role.TheVariants.{Input as InputRole, Param, Kept, Brief}
use Rattle.pv_types.specs.declared.declaration.Section.{Section}
use Rattle.pv_types.specs.declared.declaration.Section.TheVariants.{Input, Output, InOut, Static, Temp, Const}
use Rattle.pv_types.specs.declared.leaf.Leaf.{Leaf}
use Rattle.pv_types.specs.Tree.{TypeTree}
use Rattle.pv_types.specs.Leaves.{leaves_of, leaves_of_type, leaves_of_named}
use Rattle.pv_tree.specs.declared.expr.Root.{Root}
use Rattle.pv_tree.specs.declared.expr.Root.TheVariants.{Local, Named, Area as InArea}
use Rattle.pv_tree.specs.Tree.{OperandTree, operand, StartTree, BlockTree}
use Rattle.pv_tree.specs.Scopes.{ProjectTree, is_fb, is_stl}
use Rattle.pv_tree.specs.Callees.{Callee, runs, not_declared, not_callable, unknown, callee_of}
use Rattle.pv_tree.specs.Parts.{calls_of, starts_of}
use Rattle.pv_mean.specs.declared.cell.Cell.{Cell}
use Rattle.pv_tree.specs.NamedTypes.{types_of_project}
use Rattle.pv_mean.specs.Layout.{Laid, is_temp, is_brief_in, is_db, data_type, field_laid, laid_behind}
use Rattle.pv_mean.specs.AreaBytes.{Bytes}

-- ---- the entered block

-- the role of a cell is that of the outermost declaration around it: what is handed in takes a value at each scan's beginning,
-- and what is declared for an activation lives no longer than it. A constant has no leaf
abbrev pub role_of : Section → Role
role_of Input = InputRole
role_of Output = Kept
role_of InOut = InputRole
role_of Static = Kept
role_of Temp = Brief
role_of Const = Brief

-- a leaf's cell; no case binds it yet
abbrev pub cell_of : Leaf → Cell
cell_of leaf = record {
  path = leaf.path;
  ty = leaf.ty;
  start = leaf.start;
  role = role_of leaf.section;
  bound = None;
}

-- the leaves of a block's variables, but for its constants, in the order of the declarations
abbrev pub leaves_of_block : ProjectTree → BlockTree → List Leaf
leaves_of_block project block = leaves_of (types_of_project project) block.vars

-- a function block's variables but the temporary ones; an OB has none that a scan leaves
abbrev pub entry_cells : ProjectTree → BlockTree → List Cell
entry_cells project block =
    if is_fb block.kind
    then map cell_of (filter (λ l. not (is_temp l.section)) (leaves_of_block project block))
    else []

-- ---- data blocks

-- the number of the cell, from the block's first on, that a value of a data block is for
abbrev pub started_from : ProjectTree → TypeTree → Root → Option Laid
started_from project ty (Local name hash place) =
    field_laid project (record { ty = ty; first = 0 }) name.key
started_from project ty (Named name) = None
started_from project ty (InArea area bits byte bit) = None

abbrev pub started : ProjectTree → TypeTree → OperandTree → Option Laid
started project ty (operand root more place) =
    laid_behind project (started_from project ty root) more

-- the cells with another start value at this number
abbrev pub with_start_at : List Cell → ℕ → ℤ → List Cell
with_start_at [] n v = []
with_start_at (c ∷ cs) zero v = record c { start = v } ∷ cs
with_start_at (c ∷ cs) (suc n) v = c ∷ with_start_at cs n v

abbrev pub with_start : List Cell → Option Laid → ℤ → List Cell
with_start cells None v = cells
with_start cells (Some laid) v = with_start_at cells laid.first v

-- of two values for one cell the later stands
abbrev pub with_starts : ProjectTree → TypeTree → List StartTree → List Cell → List Cell
with_starts project ty [] cells = cells
with_starts project ty (s ∷ more) cells =
    with_starts project ty more (with_start cells (started project ty s.0) s.1.value)

-- the leaves of what a data block holds, beneath its name
abbrev pub data_leaves : ProjectTree → BlockTree → List Leaf
data_leaves project block =
    leaves_of_type (leaves_of_named (types_of_project project) (length (types_of_project project)))
    block.name.spelled (pos 0) Static (data_type block)

abbrev pub data_cells : ProjectTree → BlockTree → List Cell
data_cells project block =
    if is_db block.kind
    then with_starts project (data_type block) (starts_of block.body)
    (map cell_of (data_leaves project block))
    else []

-- ---- areas

-- the path of a byte: the letter of its area, B, a blank and its number
abbrev pub byte_path : ℕ → ℕ → List ℕ
byte_path letter n = letter ∷ 66 ∷ 32 ∷ decimal n

abbrev pub byte_cell : ℕ → Role → ℕ → Cell
byte_cell letter role n =
    record { path = byte_path letter n; ty = Byte; start = pos 0; role = role; bound = None }

abbrev pub area_cells : Bytes → List Cell
area_cells bytes =
    map (byte_cell 73 InputRole) bytes.inputs ++ map (byte_cell 81 Kept) bytes.outputs
    ++ map (byte_cell 77 Kept) bytes.flags

-- ---- brief cells

abbrev pub brief_cell : List ℕ → Ty → ℤ → Cell
brief_cell path ty start =
    record { path = path; ty = ty; start = start; role = Brief; bound = None }

-- those of a block's variables
abbrev pub brief_variables : ProjectTree → BlockTree → List Cell
brief_variables project block =
    map (λ l. brief_cell l.path l.ty l.start)
    (filter (λ l. is_brief_in block l.section) (leaves_of_block project block))

-- a function's value; and an STL block's two accumulators, and /FC, RLO, OR, OV, CC1 and CC0
abbrev pub value_cells : BlockTree → List Cell
value_cells block = map (λ ty. brief_cell [] ty (pos 0)) (option_to_list block.value)

abbrev pub stl_types : List Ty
stl_types = Dword ∷ Dword ∷ Bool ∷ Bool ∷ Bool ∷ Bool ∷ Bool ∷ Bool ∷ []

abbrev pub stl_cells : BlockTree → List Cell
stl_cells block =
    if is_stl block.body then map (λ ty. brief_cell [] ty (pos 0)) stl_types else []

abbrev pub own_brief_cells : ProjectTree → BlockTree → List Cell
own_brief_cells project block =
    brief_variables project block ++ value_cells block ++ stl_cells block

-- only the entered block's own are known by their paths
abbrev pub nameless : Cell → Cell
nameless c = record c { path = [] }

-- a chain of calls has eight blocks at most, and so seven calls
abbrev pub most_calls : ℕ
most_calls = 7

-- those of a called block, and of the blocks that it calls
abbrev pub brief_of_callee : ProjectTree → (BlockTree → List Cell) → Callee → List Cell
brief_of_callee project below (runs b) = map nameless (own_brief_cells project b) ++ below b
brief_of_callee project below (not_declared place) = []
brief_of_callee project below (not_callable place) = []
brief_of_callee project below unknown = []

-- those of the calls in a block, call by call down its text, a called block's calls before the next call, where so many calls may
-- stand behind one another
abbrev pub brief_below : ProjectTree → ℕ → BlockTree → List Cell
brief_below project zero block = []
brief_below project (suc n) block =
    flat_map (λ s. brief_of_callee project (brief_below project n)
    (callee_of (record { project = project; block = block }) s)) (calls_of block)

abbrev pub brief_cells : ProjectTree → BlockTree → List Cell
brief_cells project block =
    own_brief_cells project block ++ brief_below project most_calls block

-- ---- the table

abbrev pub visible_part : ProjectTree → BlockTree → Bytes → List Cell
visible_part project block bytes =
    entry_cells project block ++ flat_map (data_cells project) project.blocks ++ area_cells bytes

-- the table of a project that is entered at this block, before a case says what its parameters are
abbrev pub table_of : ProjectTree → BlockTree → Bytes → List Cell
table_of project block bytes = visible_part project block bytes ++ brief_cells project block

-- ---- parameters

-- what a case says of cells by their numbers: which are parameters, and which are so with one value
pub record View : Type 0 where
  pub params : List ℕ
  pub bound : List (ℕ × ℤ)

-- the cells with the one of this number changed
abbrev pub changed_at : (Cell → Cell) → List Cell → ℕ → List Cell
changed_at change [] n = []
changed_at change (c ∷ cs) zero = change c ∷ cs
changed_at change (c ∷ cs) (suc n) = c ∷ changed_at change cs n

abbrev pub as_param : Cell → Cell
as_param c = record c { role = Param }

abbrev pub as_bound : ℤ → Cell → Cell
as_bound v c = record c { role = Param; bound = Some v }

abbrev pub with_params : List ℕ → List Cell → List Cell
with_params [] cells = cells
with_params (n ∷ more) cells = with_params more (changed_at as_param cells n)

abbrev pub with_bindings : List (ℕ × ℤ) → List Cell → List Cell
with_bindings [] cells = cells
with_bindings (b ∷ more) cells = with_bindings more (changed_at (as_bound b.1) cells b.0)

-- the cells that a case lists are parameters, and those that it binds have the one value
abbrev pub with_view : View → List Cell → List Cell
with_view view cells = with_bindings view.bound (with_params view.params cells)
