-- How a circuit's literals and a scan of the program go together.
use Rattle.std.specs.Prelude.{◌≡◌, ℕ, Bool, not, length}
use Rattle.pv_gate.specs.Value.{value_of}
use Rattle.pv_circuit.specs.Circuits.{values_of}
use Rattle.pv_bool.specs.Tree.{ProgramTree}
use Rattle.pv_bool.specs.Scans.{Bits, state_len, input_len, next_state, keeps}
use Rattle.pv_step.specs.Circuits.{circuit_of}

-- the state and the input that the circuit's inputs stand for
abbrev pub state_before : ProgramTree → (ℕ → Bool) → Bits
state_before program inputs = values_of inputs (circuit_of program).nodes (circuit_of program).state_in

abbrev pub input_before : ProgramTree → (ℕ → Bool) → Bits
input_before program inputs = values_of inputs (circuit_of program).nodes (circuit_of program).input

-- the scan from that state by that input: `fail` is true exactly where the requirement isn't kept, `ok` exactly where it is, and the
-- state behind it is the next one
pub record DoesTheScan (program : ProgramTree) (inputs : ℕ → Bool) : Type 0 where
  pub fail : value_of inputs (circuit_of program).nodes (circuit_of program).fail
      ≡ not (keeps program (state_before program inputs) (input_before program inputs))
  pub ok : value_of inputs (circuit_of program).nodes (circuit_of program).ok
      ≡ keeps program (state_before program inputs) (input_before program inputs)
  pub state_out : values_of inputs (circuit_of program).nodes (circuit_of program).state_out
      ≡ next_state program (state_before program inputs) (input_before program inputs)

-- the inputs stand for a state and an input
pub record HaveLengths (program : ProgramTree) (inputs : ℕ → Bool) : Type 0 where
  pub state : length (state_before program inputs) ≡ state_len program.bits
  pub input : length (input_before program inputs) ≡ input_len program.bits

-- inputs that stand for this state and this input
pub record StandFor (program : ProgramTree) (before taken : Bits) : Type 0 where
  pub inputs : ℕ → Bool
  pub state : state_before program inputs ≡ before
  pub input : input_before program inputs ≡ taken
