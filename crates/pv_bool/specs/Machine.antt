-- The machine of a Boolean program: states and inputs are lists of the numbers 0 and 1, a step is a scan, which is always done,
-- and it fails where the requirement doesn't hold at its end.
use Rattle.std.specs.Prelude.{ℤ, pos, Bool, true, false, not, List, [], map, replicate}
use Rattle.std.specs.Ordering.{int_eq}
use Rattle.pv_place.specs.Ranges.{Range}
use Rattle.pv_machine.specs.Machines.{Machine, done}
use Rattle.pv_bool.specs.Tree.{ProgramTree}
use Rattle.pv_bool.specs.Scans.{Bits, state_len, input_len, start, next_state, keeps}

-- 0 and 1
abbrev pub bit_range : Range
bit_range = record { least = pos 0; greatest = pos 1 }

-- a bit as a number, and a number as a bit
abbrev pub number_of : Bool → ℤ
number_of true = pos 1
number_of false = pos 0

abbrev pub bit_of : ℤ → Bool
bit_of v = int_eq v (pos 1)

abbrev pub numbers_of : Bits → List ℤ
numbers_of bits = map number_of bits

abbrev pub bits_of : List ℤ → Bits
bits_of values = map bit_of values

abbrev pub machine_of : ProgramTree → Machine
machine_of program = record {
  state = replicate (state_len program.bits) bit_range;
  input = replicate (input_len program.bits) bit_range;
  params = [];
  start = λ params. numbers_of (start program.bits);
  step = λ state input. done (numbers_of (next_state program (bits_of state) (bits_of input)));
  fails = λ state input. not (keeps program (bits_of state) (bits_of input));
}
