-- What can't be assigned. Either the target is a constant, a block or another function's name, at the target's first token; or the
-- argument for an output or VAR_IN_OUT isn't an assignable operand, at the argument's first token.
use Rattle.std.specs.Prelude.{◌≡◌, Bool as Truth, true, false, Option, Some, None, Any, IsTrue}
use Rattle.pv_place.specs.declared.place.Place.{Place}
use Rattle.pv_types.specs.declared.declaration.Section.{Section}
use Rattle.pv_types.specs.declared.declaration.Section.TheVariants.{Input, Output, InOut, Static, Temp, Const}
use Rattle.pv_tree.specs.Tree.{OperandTree, ArgTree, BlockTree}
use Rattle.pv_tree.specs.Scopes.{ProjectTree, Scope}
use Rattle.pv_tree.specs.Things.{Thing, part, constant, a_block, no_name, no_array, a_date, untold, thing_of, place_of_operand, first_place}
use Rattle.pv_tree.specs.Callees.{CallSite, Param, param_of_arg}
use Rattle.pv_tree.specs.Parts.{written_operands, calls_of, operand_of}

-- nothing can be assigned to a constant, and to a block; a function's own name is its value, and no block
abbrev pub is_fixed : Thing → Truth
is_fixed (part ty) = false
is_fixed (constant ty) = true
is_fixed (a_block b) = true
is_fixed (no_name place) = false
is_fixed (no_array place) = false
is_fixed (a_date place) = false
is_fixed untold = false

abbrev pub IsFixedOperand : Scope → Place → OperandTree → Type 0
IsFixedOperand scope at o = (place_of_operand o ≡ at) × IsTrue (is_fixed (thing_of scope o))

abbrev pub IsFixedTarget : ProjectTree → Place → Type 0
IsFixedTarget project at =
    Any (λ b. Any (IsFixedOperand (record { project = project; block = b }) at)
    (written_operands b)) project.blocks

-- a parameter whose value goes back to the argument
abbrev pub goes_out : Section → Truth
goes_out Input = false
goes_out Output = true
goes_out InOut = true
goes_out Static = false
goes_out Temp = false
goes_out Const = false

abbrev pub goes_out_where : Option Param → Truth
goes_out_where None = false
goes_out_where (Some p) = goes_out p.section

abbrev pub isnt_assignable : Scope → Option OperandTree → Truth
isnt_assignable scope None = true
isnt_assignable scope (Some o) = is_fixed (thing_of scope o)

abbrev pub IsFixedArgument : Scope → Place → CallSite → ArgTree → Type 0
IsFixedArgument scope at s arg =
    (first_place arg.value ≡ at) × IsTrue (goes_out_where (param_of_arg scope s arg)) × IsTrue
    (isnt_assignable scope (operand_of arg.value))

abbrev pub HasFixedArgument : ProjectTree → Place → BlockTree → Type 0
HasFixedArgument project at block =
    Any (λ s. Any (IsFixedArgument (record { project = project; block = block }) at s) s.call.args)
    (calls_of block)

abbrev pub IsFixedOutput : ProjectTree → Place → Type 0
IsFixedOutput project at = Any (HasFixedArgument project at) project.blocks
