-- What is made of leaves: visible cells, the entered block's brief cells with their paths, and brief cells that nothing names.
use Rattle.std.specs.Prelude.{List, [], ◌∷◌, ◌++◌, map, flat_map, Bool as Truth, if◌then◌else◌}
use Rattle.pv_types.specs.declared.declaration.Section.{Section}
use Rattle.pv_types.specs.declared.leaf.Leaf.{Leaf}
use Rattle.pv_types.specs.Tree.{VarTree}
use Rattle.pv_types.specs.View.{section_of}
use Rattle.pv_types.specs.Leaves.{leaves_of}
use Rattle.pv_tree.specs.Tree.{BlockTree}
use Rattle.pv_tree.specs.Scopes.{ProjectTree}
use Rattle.pv_tree.specs.NamedTypes.{types_of_project}
use Rattle.pv_mean.specs.declared.cell.Cell.{Cell}
use Rattle.pv_mean.specs.Cells.{cell_of, brief_cell, value_cells, stl_cells}
use Rattle.pv_mean.specs.Layout.{is_brief_in}
use Rattle.pv_cells.specs.declared.variables.Form.{Form}
use Rattle.pv_cells.specs.declared.variables.Form.TheVariants.{Visible, Brief, Nameless}

abbrev pub formed : Form → Leaf → Cell
formed Visible l = cell_of l
formed Brief l = brief_cell l.path l.ty l.start
formed Nameless l = brief_cell [] l.ty l.start

-- the leaves of a variable, if its section passes the test, and so of variables
abbrev pub leaves_if : ProjectTree → (Section → Truth) → VarTree → List Leaf
leaves_if project test v =
    if test (section_of v) then leaves_of (types_of_project project) (v ∷ []) else []

abbrev pub leaves_among : ProjectTree → (Section → Truth) → List VarTree → List Leaf
leaves_among project test vars = flat_map (leaves_if project test) vars

-- the brief cells of a block itself, with their paths or without
abbrev pub own_formed : Form → ProjectTree → BlockTree → List Cell
own_formed form project block =
    map (formed form) (leaves_among project (is_brief_in block) block.vars) ++ value_cells block
    ++ stl_cells block
