-- The variables of a block as the code puts them behind others: leaf by leaf, and cell by cell.
use Rattle.std.specs.Prelude.{◌≡◌, ℕ, List, [], ◌∷◌, ◌++◌, map, take, drop, Bool as Truth, ◌&&◌, not, if◌then◌else◌}
use Rattle.pv_place.specs.declared.role.Role.TheVariants.{Kept, Brief}
use Rattle.pv_types.specs.declared.declaration.Section.{Section}
use Rattle.pv_types.specs.declared.leaf.Leaf.{Leaf}
use Rattle.pv_tree.specs.Tree.{BlockTree}
use Rattle.pv_mean.specs.declared.cell.Cell.{Cell}
use Rattle.pv_mean.specs.Layout.{is_temp, is_brief_in}
use Rattle.pv_mean.specs.Frames.{visible_cells}
use Rattle.pv_flow.specs.Automata.{Variable}
use Rattle.pv_flow.specs.declared.parts.Variable.{Variable as CodeVariable}
use Rattle.pv_flow.specs.View.{variable_of}
use Rattle.pv_variables.specs.declared.list.Group.{Group}
use Rattle.pv_variables.specs.declared.list.Group.TheVariants.{Instance, Params, Own}
use Rattle.pv_variables.specs.Variables.{is_bound_in, plain_variable, variable_of_cell, with_set, role_of_param}

-- these are put behind those that were there
abbrev pub Adds : List CodeVariable → List CodeVariable → List Variable → Type 0
Adds old new more = map variable_of new ≡ map variable_of old ++ more

-- what is no parameter of a function and lives within one activation
abbrev pub is_own_in : BlockTree → Section → Truth
is_own_in block section = is_brief_in block section && not (is_bound_in block section)

-- the variables of a leaf, if it is of the group
abbrev pub leaf_variables : Group → BlockTree → Leaf → List Variable
leaf_variables Instance block l = if not (is_temp l.section) then plain_variable Kept l.ty ∷ [] else []
leaf_variables Params block l = if is_bound_in block l.section then with_set (role_of_param l.section) l.ty else []
leaf_variables Own block l = if is_own_in block l.section then with_set Brief l.ty else []

-- those of the first visible cells, and those behind these
abbrev pub front_of : ℕ → List Cell → List Variable
front_of n cells = map variable_of_cell (take n (visible_cells cells))

abbrev pub rest_of : ℕ → List Cell → List Variable
rest_of n cells = map variable_of_cell (drop n (visible_cells cells))
