-- Whether a value fits what takes it.
use Rattle.std.specs.Prelude.{Bool as Truth, true, false, ◌&&◌, ◌||◌, not, Option, Some, None}
use Rattle.pv_word.specs.declared.types.Ty.{Ty}
use Rattle.pv_types.specs.declared.declaration.Literal.{Literal}
use Rattle.pv_tree.specs.Tree.{OperandTree}
use Rattle.pv_tree.specs.LiteralTypes.{holds, is_whole_number, this, type_of_literal}
use Rattle.pv_tree.specs.Sorts.{Sort, broken, is_whole, own_type, widens}
use Rattle.pv_tree.specs.Scopes.{Scope}
use Rattle.pv_tree.specs.Things.{Thing, part, constant, a_block, no_name, no_array, a_date, untold, thing_of}
use Rattle.pv_tree.specs.Types.{sort_of_operand}

-- a value of the first type where one of the second is taken
abbrev pub widens_to : Ty → Option Ty → Truth
widens_to from None = true
widens_to from (Some to) = widens from to

abbrev pub widens_from : Option Ty → Option Ty → Truth
widens_from None to = true
widens_from (Some from) to = widens_to from to

-- a value that doesn't fit its target; a whole array, structure or instance fits nowhere, and what has no type is no fault here
abbrev pub doesnt_fit : Sort → Sort → Truth
doesnt_fit target value =
    is_whole target || is_whole value || not (widens_from (own_type value) (own_type target))

-- what an assignable operand takes: constants and blocks are none, and break a rule of their own
abbrev pub sort_of_taken : Scope → OperandTree → Thing → Sort
sort_of_taken scope target (part ty) = sort_of_operand scope target
sort_of_taken scope target (constant ty) = broken
sort_of_taken scope target (a_block b) = broken
sort_of_taken scope target (no_name place) = broken
sort_of_taken scope target (no_array place) = broken
sort_of_taken scope target (a_date place) = broken
sort_of_taken scope target untold = broken

abbrev pub sort_of_target : Scope → OperandTree → Sort
sort_of_target scope target = sort_of_taken scope target (thing_of scope target)

-- the type of a start value: a literal without a type takes that of what it is for
abbrev pub type_of_start : Ty → Literal → Ty
type_of_start ty literal = type_of_literal (this ty) literal.ty literal.value

-- a start value doesn't fit its type; where an INT or DINT doesn't hold the value, that is the one fault
abbrev pub start_misfits : Ty → Literal → Truth
start_misfits ty literal =
    not (widens (type_of_start ty literal) ty) && not (is_whole_number ty && not
    (holds ty literal.value))

-- of another type than this test asks for; what has no type is no fault here
abbrev pub is_of_other_type : (Ty → Truth) → Sort → Truth
is_of_other_type test sort = is_whole sort || fails (own_type sort)
  where
    fails : Option Ty → Truth
    fails None = false
    fails (Some ty) = not (test ty)
