-- The variables of a block's automaton, in their order. The bound ones are a function block's instance cells, or a function's parameters
-- and its value, each with its 'set'; those of the entry are the cells of its table. Then come the shared ones, which are all other
-- visible cells; then the block's own: what lives within one activation, each cell with its 'set', and of a block of STL what it works
-- with. A 'set' says whether its cell has a value.
use Rattle.std.specs.Prelude.{ℕ, ◌+◌, ◌-◌, ◌*◌, nat_lt, pos, List, [], ◌∷◌, ◌++◌, map, flat_map, filter, length, take, drop, option_to_list, Bool as Truth, ◌&&◌, not, if◌then◌else◌, None, is_some}
use Rattle.pv_word.specs.declared.types.Ty.{Ty}
use Rattle.pv_word.specs.declared.types.Ty.TheVariants.{Bool, Dword}
use Rattle.pv_place.specs.declared.role.Role.{Role}
use Rattle.pv_place.specs.declared.role.Role.TheVariants.{Kept, Brief}
use Rattle.pv_types.specs.declared.declaration.Section.{Section}
use Rattle.pv_types.specs.Tree.{VarTree, var}
use Rattle.pv_tree.specs.Tree.{BlockTree}
use Rattle.pv_tree.specs.Scopes.{ProjectTree, has_key, is_fc, is_stl}
use Rattle.pv_tree.specs.Callees.{is_param, is_output}
use Rattle.pv_mean.specs.declared.cell.Cell.{Cell}
use Rattle.pv_mean.specs.Layout.{size_in, size_among, is_brief_in, entry_size}
use Rattle.pv_mean.specs.Sources.{Source}
use Rattle.pv_mean.specs.Cells.{entry_cells, leaves_of_block}
use Rattle.pv_mean.specs.Frames.{visible_cells}
use Rattle.pv_flow.specs.Automata.{Variable}

-- ---- how many there are

abbrev pub is_entry : Source → BlockTree → Truth
is_entry source block = has_key source.entry.name.key block.name

-- a function's parameters lie where its caller puts them; all else that is brief is the block's own
abbrev pub is_bound_in : BlockTree → Section → Truth
is_bound_in block section = is_fc block.kind && is_param section

abbrev pub value_count : BlockTree → ℕ
value_count block = if is_some block.value then 1 else 0

abbrev pub bound_count : Source → BlockTree → ℕ
bound_count source block =
    entry_size source.project block
    + 2 * (size_among source.project (is_bound_in block) block.vars + value_count block)

-- the visible cells but for the entry's own: those of data blocks and of areas
abbrev pub shared_cells : Source → List Cell
shared_cells source = drop (entry_size source.project source.entry) (visible_cells source.cells)

abbrev pub shared_count : Source → ℕ
shared_count source = length (shared_cells source)

-- the number of the first that is the block's own
abbrev pub own_first : Source → BlockTree → ℕ
own_first source block = bound_count source block + shared_count source

-- ---- where cells lie

-- the visible cell of this number, of a data block or an area
abbrev pub table_variable : Source → BlockTree → ℕ → ℕ
table_variable source block n = bound_count source block + (n - entry_size source.project source.entry)

abbrev pub behind : Truth → ℕ → ℕ → ℕ
behind test n size = if test then n + 2 * size else n

-- the brief cell so many behind the first of these variables', where a bound one would have the first of these two numbers and one of
-- the block's own the second; each takes two. A function's value is behind all of them, and is bound
abbrev pub brief_among : ProjectTree → BlockTree → List VarTree → ℕ → ℕ → ℕ → ℕ
brief_among project block [] j bound own = bound + 2 * j
brief_among project block (var name section ty start place ∷ more) j bound own =
    if is_brief_in block section
    then (if nat_lt j (size_in project ty)
    then (if is_bound_in block section then bound else own) + 2 * j
    else brief_among project block more (j - size_in project ty)
    (behind (is_bound_in block section) bound (size_in project ty))
    (behind (not (is_bound_in block section)) own (size_in project ty)))
    else brief_among project block more j bound own

-- the brief cell of this number of the activation; its 'set' is the next one
abbrev pub brief_variable : Source → BlockTree → ℕ → ℕ
brief_variable source block j =
    brief_among source.project block block.vars j 0 (own_first source block)

-- the first of those that a block of STL works with
abbrev pub registers_first : Source → BlockTree → ℕ
registers_first source block =
    own_first source block
    + 2 * size_among source.project (λ s. is_brief_in block s && not (is_bound_in block s)) block.vars

-- ---- the variables

abbrev pub plain_variable : Role → Ty → Variable
plain_variable role ty = record { ty = ty; role = role; start = pos 0; only = None }

abbrev pub variable_of_cell : Cell → Variable
variable_of_cell c = record { ty = c.ty; role = c.role; start = c.start; only = c.bound }

-- with whether it has a value
abbrev pub with_set : Role → Ty → List Variable
with_set role ty = plain_variable role ty ∷ plain_variable role Bool ∷ []

-- what a function gives begins without a value
abbrev pub role_of_param : Section → Role
role_of_param section = if is_output section then Brief else Kept

abbrev pub bound_of_called : ProjectTree → BlockTree → List Variable
bound_of_called project block =
    map (λ c. plain_variable Kept c.ty) (entry_cells project block)
    ++ flat_map (λ l. with_set (role_of_param l.section) l.ty)
    (filter (λ l. is_bound_in block l.section) (leaves_of_block project block))
    ++ flat_map (with_set Brief) (option_to_list block.value)

abbrev pub bound_variables : Source → BlockTree → List Variable
bound_variables source block =
    if is_entry source block
    then map variable_of_cell (take (entry_size source.project block) (visible_cells source.cells))
    else bound_of_called source.project block

-- two accumulators, /FC, RLO, OR, OV, CC1 and CC0; /FC and OR always have a value
abbrev pub register_variables : BlockTree → List Variable
register_variables block =
    if is_stl block.body
    then with_set Brief Dword ++ with_set Brief Dword ++ plain_variable Brief Bool ∷ with_set Brief Bool
    ++ plain_variable Brief Bool ∷ with_set Brief Bool ++ with_set Brief Bool ++ with_set Brief Bool
    else []

abbrev pub own_variables : Source → BlockTree → List Variable
own_variables source block =
    flat_map (λ l. with_set Brief l.ty)
    (filter (λ l. is_brief_in block l.section && not (is_bound_in block l.section))
    (leaves_of_block source.project block))
    ++ register_variables block

-- those of a block before a translation adds what its statements keep for themselves
abbrev pub variables_of : Source → BlockTree → List Variable
variables_of source block =
    bound_variables source block ++ map variable_of_cell (shared_cells source) ++ own_variables source block
