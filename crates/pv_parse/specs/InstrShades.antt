-- What is known of instructions while a tree isn't built yet, and what their alternatives do with it: an instruction is no part, and
-- nothing is around what stands in it.
use Rattle.std.specs.Prelude.{[], ◌∷◌, List, Option, Some, None}
use Rattle.pv_place.specs.declared.place.Place.{Place}
use Rattle.pv_tree.specs.Tree.{OperandTree, CallPlain, InstrTree}
use Rattle.pv_parse.specs.declared.shade.Shading.{Shading}
use Rattle.pv_parse.specs.declared.shade.Shading.TheVariants.{Join, Group}
use Rattle.pv_parse.specs.declared.action.InstrAction.{InstrAction}
use Rattle.pv_parse.specs.declared.action.InstrAction.TheVariants as a
use Rattle.pv_parse.specs.Shades.{merged}
use Rattle.pv_parse.specs.ExprShades.{places_of_operand}
use Rattle.pv_parse.specs.StmtShades.{places_of_call}

-- by depth the place of the first part that has so many parts above it
abbrev pub places_of_variable : Option OperandTree → List Place
places_of_variable None = []
places_of_variable (Some variable) = places_of_operand variable

abbrev pub places_of_option_call : Option CallPlain → List Place
places_of_option_call None = []
places_of_option_call (Some call) = places_of_call call

abbrev pub places_of_instr : InstrTree → List Place
places_of_instr instr = merged (places_of_variable instr.operand) (places_of_option_call instr.call)

abbrev pub places_of_instrs : List InstrTree → List Place
places_of_instrs [] = []
places_of_instrs (instr ∷ others) = merged (places_of_instr instr) (places_of_instrs others)

-- the path of a called name and that of a second one give their names alone
abbrev pub instr_shading : InstrAction → Shading
instr_shading a.NewCode = Group 0 0
instr_shading a.Begun = Group 2 0
instr_shading a.NoLabel = Group 0 0
instr_shading a.Label = Group 3 0
instr_shading a.Number = Join 1 0
instr_shading a.Negative = Join 2 0
instr_shading a.Truth = Join 1 0
instr_shading a.Opening = Group 4 0
instr_shading a.Operand = Group 4 0
instr_shading a.Literal = Group 4 0
instr_shading a.Alone = Group 3 0
instr_shading a.Base = Join 3 1
instr_shading a.Bare = Join 1 1
instr_shading a.Call = Group 4 0
