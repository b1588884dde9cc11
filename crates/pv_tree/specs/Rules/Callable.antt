-- A called name can't be called, a called instance is temporary or a variable of a function or an OB, an instance is of another
-- function block, or the value of a function without one is used. The place is the called name, or the instance's name where it is
-- of another function block.
use Rattle.std.specs.Prelude.{◌≡◌, ◌⊎◌, ◌++◌, filter_map, Bool as Truth, false, if◌then◌else◌, Option, Some, None, Any, IsTrue}
use Rattle.pv_place.specs.declared.place.Place.{Place}
use Rattle.pv_tree.specs.Tree.{OperandTree, InstrTree, BlockTree}
use Rattle.pv_tree.specs.Scopes.{ProjectTree, Scope}
use Rattle.pv_tree.specs.Things.{Thing, part, constant, a_block, no_name, no_array, a_date, untold}
use Rattle.pv_tree.specs.Types.{is_void}
use Rattle.pv_tree.specs.InstructionGroups.{is_written, group_of, operand_of_instruction}
use Rattle.pv_tree.specs.Callees.{not_callable, callee_of, is_output, Param, param_of_arg}
use Rattle.pv_tree.specs.Parts.{path_of, thing_of_path, parts_of_block, reads_of_parts, calls_of, instructions_of, operand_of}

-- the name of a function without a value, where a value is read
abbrev pub is_void_thing : Thing → Truth
is_void_thing (a_block b) = is_void b
is_void_thing (part ty) = false
is_void_thing (constant ty) = false
is_void_thing (no_name place) = false
is_void_thing (no_array place) = false
is_void_thing (a_date place) = false
is_void_thing untold = false

abbrev pub ReadsVoid : Scope → Place → OperandTree → Type 0
ReadsVoid scope at o =
    ((path_of scope o).last ≡ at) × IsTrue (is_void_thing (thing_of_path scope (path_of scope o)))

-- the operand that an argument for an output is: the call writes it, and reads no value. Operands are told apart by their places
abbrev pub is_output_where : Option Param → Truth
is_output_where None = false
is_output_where (Some p) = is_output p.section

abbrev pub IsOutputArgument : Scope → OperandTree → Type 0
IsOutputArgument scope o =
    Any (λ s. Any (λ a. (operand_of a.value ≡ Some o) × IsTrue (is_output_where
    (param_of_arg scope s a))) s.call.args) (calls_of scope.block)

-- the operand that an instruction reads
abbrev pub read_operand : InstrTree → Option OperandTree
read_operand i = if is_written (group_of i.op) then None else operand_of_instruction i

abbrev pub CallsWrong : ProjectTree → Place → BlockTree → Type 0
CallsWrong project at block =
    Any (λ s. callee_of scope s ≡ not_callable at) (calls_of block)
    ⊎ Any (λ o. ReadsVoid scope at o × (IsOutputArgument scope o → ⊥)) (reads_of_parts (parts_of_block project block)
    ++ filter_map read_operand (instructions_of block.body))
  where
    scope : Scope
    scope = record { project = project; block = block }

abbrev pub IsNotCallable : ProjectTree → Place → Type 0
IsNotCallable project at = Any (CallsWrong project at) project.blocks
