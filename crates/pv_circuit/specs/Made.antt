-- What the code has of a circuit.
use Rattle.std.specs.Prelude.{◌≡◌, ℕ}
use Rattle.pv_circuit.specs.declared.circuit.StepCircuit.{StepCircuit}
use Rattle.pv_circuit.specs.Circuits.{Circuit, circuit_with}

-- a circuit of the code as plain data
abbrev pub circuit_seen : StepCircuit → Circuit
circuit_seen made =
    circuit_with made.gates.nodes made.state_in.items made.input.items made.state_out.items made.ok made.fail

-- the gates and the literals are those of the circuit, under this limit
pub record IsStepCircuit (c : Circuit) (limit : ℕ) (made : StepCircuit) : Type 0 where
  pub gates : made.gates ≡ record { nodes = c.nodes; limit = limit }
  pub state_in : made.state_in.items ≡ c.state_in
  pub input : made.input.items ≡ c.input
  pub state_out : made.state_out.items ≡ c.state_out
  pub ok : made.ok ≡ c.ok
  pub fail : made.fail ≡ c.fail
