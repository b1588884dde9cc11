-- What is so of every Boolean program: the laws that callers cite.
use Rattle.std.specs.Prelude.{◌≡◌, ℕ, ℤ, List, length, replicate}
use Rattle.pv_place.specs.Ranges.{AreWithin}
use Rattle.pv_bool.specs.declared.program.Bit.{Bit}
use Rattle.pv_bool.specs.Tree.{ProgramTree}
use Rattle.pv_bool.specs.Scans.{Bits, state_len, input_len, start, begin, state_of, input_of, scan_end, next_state}
use Rattle.pv_bool.specs.Machine.{bit_range, numbers_of, bits_of}

-- what a scan starts, begins, ends and goes on with has as many values as it should
pub record HasLengths (program : ProgramTree) : Type 0 where
  pub starts : length (start program.bits) ≡ state_len program.bits
  pub begins : (state input : Bits) → length (begin program.bits state input) ≡ length program.bits
  pub ends : (state input : Bits) → length (scan_end program state input) ≡ length program.bits
  pub goes_on : (state input : Bits) → length (next_state program state input) ≡ state_len program.bits

-- a frame has a value for each bit of a state and of an input
pub record HasParts (bits : List Bit) (frame : Bits) : Type 0 where
  pub state : length (state_of bits frame) ≡ state_len bits
  pub input : length (input_of bits frame) ≡ input_len bits

-- a scan begins with its state and its input
pub record BeginsWith (bits : List Bit) (state input : Bits) : Type 0 where
  pub has_state : state_of bits (begin bits state input) ≡ state
  pub has_input : input_of bits (begin bits state input) ≡ input

-- numbers within these ranges are as many bits
pub record AreOfBits (n : ℕ) (values : List ℤ) : Type 0 where
  pub count : length (bits_of values) ≡ n
  pub back : numbers_of (bits_of values) ≡ values

-- as many bits are numbers within these ranges
pub record AreNumbers (bits : Bits) : Type 0 where
  pub within : AreWithin (replicate (length bits) bit_range) (numbers_of bits)
  pub back : bits_of (numbers_of bits) ≡ bits
