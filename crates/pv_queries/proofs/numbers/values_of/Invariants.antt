use Rattle.std.proofs.Common.{◌≡◌, ◌+◌, ◌++◌, length, drop}
use Rattle.pv_circuit.specs.Steps.{widths}
use Rattle.pv_queries.specs.Numbers.{values_of_bits}
use Rattle.pv_queries.proofs.numbers.values_of.Given as goal

-- the values so far and those of the bits that are left
abbrev pub invariant-loop-ty : goal.invariant-loop-ty
invariant-loop-ty l = record {
  values : l.values ++ values_of_bits (drop l.ty-index l.types) (drop l.at l.bits) ≡ values_of_bits l.types l.bits;
  left : l.at + widths (drop l.ty-index l.types) ≡ length l.bits;
}
