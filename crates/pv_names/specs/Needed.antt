-- The variables that calls of a block have to give.
use Rattle.std.specs.Prelude.{List, filter, Bool as Truth, ◌&&◌, ◌||◌}
use Rattle.pv_types.specs.Tree.{VarTree}
use Rattle.pv_types.specs.View.{section_of}
use Rattle.pv_types.specs.declared.declaration.Section.{Section}
use Rattle.pv_tree.specs.declared.block.BlockKind.{BlockKind}
use Rattle.pv_tree.specs.Scopes.{is_fc}
use Rattle.pv_tree.specs.Callees.{is_input, is_in_out}

-- the inputs of a function, and what is handed in and out
abbrev pub is_needed_of : BlockKind → Section → Truth
is_needed_of kind section = (is_fc kind && is_input section) || is_in_out section

abbrev pub needed_among : BlockKind → List VarTree → List VarTree
needed_among kind vars = filter (λ v. is_needed_of kind (section_of v)) vars
