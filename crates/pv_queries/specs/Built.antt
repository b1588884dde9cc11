-- What was built of a source of step circuits.
use Rattle.std.specs.Prelude.{◌≡◌, List}
use Rattle.pv_circuit.specs.declared.start.Start.{Start}
use Rattle.pv_circuit.specs.Circuits.{Circuit}
use Rattle.pv_circuit.specs.Made.{circuit_seen}
use Rattle.pv_queries.specs.declared.built.Built.{Built}

abbrev pub circuit_of : Built → Circuit
circuit_of b = circuit_seen b.circuit

abbrev pub starts_of : Built → List Start
starts_of b = b.starts

-- it is this circuit, whose state's bits begin so
pub record IsBuilt (c : Circuit) (start : List Start) (b : Built) : Type 0 where
  pub circuit : circuit_of b ≡ c
  pub starts : starts_of b ≡ start
