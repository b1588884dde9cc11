-- Literals and the types that they may have. After the manual S7-SCL for S7-300/S7-400, "Constants and Flags".
use Rattle.std.specs.Prelude.{ℤ, Bool as Truth, true, false, ◌&&◌, if◌then◌else◌, Option, Some, None, int_le}
use Rattle.pv_word.specs.declared.types.Ty.{Ty}
use Rattle.pv_word.specs.declared.types.Ty.TheVariants.{Bool, Byte, Word, Dword, Int, Dint, Time}
use Rattle.pv_word.specs.Types.{least_of, greatest_of}

-- whether v is a value of the type
abbrev pub holds : Ty → ℤ → Truth
holds ty v = int_le (least_of ty) v && int_le v (greatest_of ty)

-- the types that a literal without a type may take: BYTE, WORD, DWORD, INT and DINT
abbrev pub takes_literals : Ty → Truth
takes_literals Bool = false
takes_literals Byte = true
takes_literals Word = true
takes_literals Dword = true
takes_literals Int = true
takes_literals Dint = true
takes_literals Time = false

-- the whole numbers INT and DINT
abbrev pub is_whole_number : Ty → Truth
is_whole_number Bool = false
is_whole_number Byte = false
is_whole_number Word = false
is_whole_number Dword = false
is_whole_number Int = true
is_whole_number Dint = true
is_whole_number Time = false

-- what is wanted of an expression: nothing, a type, or what can't be told, where the other part lacks a type
pub data Want : Type 0 where
  nothing : Want
  this : Ty → Want
  unsure : Want

-- the type of a literal without a type that nothing is wanted of: INT where INT holds it, else DINT, also where DINT doesn't
abbrev pub type_alone : ℤ → Ty
type_alone v = if holds Int v then Int else Dint

-- it takes the wanted type where that is one of the five and holds it
abbrev pub type_of_number : Want → ℤ → Ty
type_of_number nothing v = type_alone v
type_of_number (this ty) v = if takes_literals ty && holds ty v then ty else type_alone v
type_of_number unsure v = if holds Dword v then Dword else type_alone v

-- the type of a literal that is written with this type or none; it needn't hold the value
abbrev pub type_of_literal : Want → Option Ty → ℤ → Ty
type_of_literal want None v = type_of_number want v
type_of_literal want (Some ty) v = ty
