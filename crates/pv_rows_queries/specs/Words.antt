-- A machine whose state is a word that begins with -32768 and a parameter, and whose input is a bit and a word. A scan leaves the state
-- as it is, and fails where the bit is 1. It is made by hand, with a circuit for it.
use Rattle.std.specs.Prelude.{ℤ, pos, negsuc, Bool as Truth, true, false, List, [], ◌∷◌, ◌++◌, map, replicate}
use Rattle.std.specs.Ordering.{int_eq}
use Rattle.pv_word.specs.declared.types.Ty.{Ty}
use Rattle.pv_word.specs.declared.types.Ty.TheVariants.{Bool, Int}
use Rattle.pv_place.specs.Ranges.{Range, range_of}
use Rattle.pv_machine.specs.Machines.{Machine, Values, done}
use Rattle.pv_circuit.specs.declared.start.Start.{Start}
use Rattle.pv_circuit.specs.declared.start.Start.TheVariants.{Begins, Free}
use Rattle.pv_circuit.specs.Steps.{Form}
use Rattle.pv_bool.specs.declared.program.Bit.{Bit}
use Rattle.pv_bool.specs.declared.program.BitRole.TheVariants.{Input, Kept}
use Rattle.pv_bool.specs.Tree.{ProgramTree, load, negation}

abbrev pub state_types : List Ty
state_types = Int ∷ Int ∷ []

abbrev pub input_types : List Ty
input_types = Bool ∷ Int ∷ []

abbrev pub words_form : Form
words_form = record { state = state_types; input = input_types }

-- whether the bit of an input is 1
abbrev pub is_set : Values → Truth
is_set [] = false
is_set (v ∷ rest) = int_eq v (pos 1)

abbrev pub words_machine : Machine
words_machine = record {
  state = map range_of state_types;
  input = map range_of input_types;
  params = range_of Int ∷ [];
  start = λ params. negsuc 32767 ∷ params;
  step = λ state input. done state;
  fails = λ state input. is_set input;
}

-- the bits with which the word begins, the least first
abbrev pub word_begins : List Truth
word_begins = replicate 15 false ++ true ∷ []

abbrev pub words_starts : List Start
words_starts = map (λ b. Begins b) word_begins ++ replicate 16 Free

-- ---- its circuit is that of a program of its bits, whose own start values play no part

abbrev pub kept_bit : Bit
kept_bit = record { role = Kept; start = false }

abbrev pub input_bit : Bit
input_bit = record { role = Input; start = false }

abbrev pub words_program : ProgramTree
words_program = record { bits = replicate 32 kept_bit ++ replicate 17 input_bit; body = []; holds = negation (load 32) }
