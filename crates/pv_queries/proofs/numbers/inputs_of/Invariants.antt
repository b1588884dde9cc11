use Rattle.std.proofs.Common.{◌≡◌, List, Bool, length, map, take, drop}
use Rattle.std.specs.List.{AllByRecursion}
use Rattle.pv_circuit.specs.Steps.{widths}
use Rattle.pv_queries.specs.Numbers.{values_of_bits}
use Rattle.pv_queries.proofs.numbers.inputs_of.Given as goal

-- the values of the first scans, and the others have as many bits
abbrev pub invariant-loop-bits : goal.invariant-loop-bits
invariant-loop-bits l = record {
  inputs : l.inputs ≡ map (values_of_bits l.types) (take l.bits-index l.scans);
  left : AllByRecursion (λ (bits : List Bool). length bits ≡ widths l.types) (drop l.bits-index l.scans);
}
