-- The operand or literal behind an STL instruction isn't allowed for it. The place is its first token. Bit instructions take BOOL
-- operands, and L and T the others.
use Rattle.std.specs.Prelude.{◌≡◌, ◌⊎◌, ℤ, pos, Bool as Truth, true, false, ◌&&◌, not, is_some, Option, Some, None, Any, IsTrue, option_to_list, int_le}
use Rattle.pv_word.specs.declared.types.Ty.{Ty}
use Rattle.pv_word.specs.declared.types.Ty.TheVariants.{Word, Dword, Int}
use Rattle.pv_place.specs.declared.place.Place.{Place}
use Rattle.pv_tree.specs.Tree.{OperandTree, InstrTree}
use Rattle.pv_tree.specs.LiteralTypes.{holds, this, type_of_literal}
use Rattle.pv_tree.specs.Sorts.{is_bool, widens}
use Rattle.pv_tree.specs.Scopes.{ProjectTree, Scope}
use Rattle.pv_tree.specs.Things.{Thing, part, constant, a_block, no_name, no_array, a_date, untold, thing_of, place_of_operand}
use Rattle.pv_tree.specs.Types.{sort_of_operand}
use Rattle.pv_tree.specs.InstructionGroups.{Group, bit_read, bit_written, load, transfer, word_logic, double_logic, word_shift, double_shift, no_operation, display, jump, group_of, label_of_operand}
use Rattle.pv_tree.specs.Parts.{instructions_of}
use Rattle.pv_tree.specs.Fits.{is_of_other_type, sort_of_target}

-- a name that isn't declared, or a variable of DATE_AND_TIME, breaks a rule of its own
abbrev pub has_own_fault : Thing → Truth
has_own_fault (part ty) = false
has_own_fault (constant ty) = false
has_own_fault (a_block b) = false
has_own_fault (no_name place) = true
has_own_fault (no_array place) = false
has_own_fault (a_date place) = true
has_own_fault untold = false

-- an operand that the instruction doesn't take: what has no type is no fault here
abbrev pub refuses_operand : Scope → Group → OperandTree → Truth
refuses_operand scope bit_read o = is_of_other_type is_bool (sort_of_operand scope o)
refuses_operand scope bit_written o = is_of_other_type is_bool (sort_of_target scope o)
refuses_operand scope load o = is_of_other_type (λ ty. not (is_bool ty)) (sort_of_operand scope o)
refuses_operand scope transfer o =
    is_of_other_type (λ ty. not (is_bool ty)) (sort_of_target scope o)
refuses_operand scope jump o = not (is_some (label_of_operand o))
refuses_operand scope group o = not (has_own_fault (thing_of scope o))

-- a literal without a type within the bounds
abbrev pub is_number_within : ℤ → ℤ → Option Ty → ℤ → Truth
is_number_within low high None value = int_le low value && int_le value high
is_number_within low high (Some ty) value = false

-- L takes a literal without a type as an INT, and one of any type but BOOL
abbrev pub is_loaded : Option Ty → ℤ → Truth
is_loaded None value = holds Int value
is_loaded (Some ty) value = not (is_bool ty)

-- AND, OR and XOR of words take what fits a word, or a double word
abbrev pub takes_literal : Group → Option Ty → ℤ → Truth
takes_literal load ty value = is_loaded ty value
takes_literal word_logic ty value = widens (type_of_literal (this Word) ty value) Word
takes_literal double_logic ty value = widens (type_of_literal (this Dword) ty value) Dword
takes_literal word_shift ty value = is_number_within (pos 0) (pos 15) ty value
takes_literal double_shift ty value = is_number_within (pos 0) (pos 31) ty value
takes_literal no_operation ty value = is_number_within (pos 0) (pos 1) ty value
takes_literal display ty value = not (is_some ty)
takes_literal group ty value = false

abbrev pub Refuses : Scope → Place → InstrTree → Type 0
Refuses scope at i =
    Any (λ o. (place_of_operand o ≡ at) × IsTrue (refuses_operand scope (group_of i.op) o))
    (option_to_list i.operand)
    ⊎ Any (λ l. (l.place ≡ at) × IsTrue (not (takes_literal (group_of i.op) l.ty l.value)))
    (option_to_list i.literal)

abbrev pub IsRefused : ProjectTree → Place → Type 0
IsRefused project at =
    Any (λ b. Any (Refuses (record { project = project; block = b }) at)
    (instructions_of b.body)) project.blocks
