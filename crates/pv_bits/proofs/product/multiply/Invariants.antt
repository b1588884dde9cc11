use Rattle.std.proofs.Common.{◌≡◌, ◌≤◌, length, drop, All}
use Rattle.pv_gate.specs.Node.{Names}
use Rattle.pv_gate.specs.Building.{and_then, each, done}
use Rattle.pv_gate.proofs.ForCallers.{Leads}
use Rattle.pv_bits.specs.Circuits.{multiply, multiply_bit}
use Rattle.pv_bits.proofs.product.multiply.Given as goal

-- the bits from here on lead to what all of them lead to
abbrev pub invariant-loop-i : goal.invariant-loop-i
invariant-loop-i l = record {
  leads : Leads l.fn.g l.g (multiply l.a l.b) (and_then (each multiply_bit (l.sum, l.part) (drop l.i l.b)) (λ s. done s.0));
  sum : All (Names (length l.g.nodes)) l.sum;
  part : All (Names (length l.g.nodes)) l.part;
  sum_width : length l.sum ≡ length l.a;
  part_width : length l.part ≡ length l.a;
  longer : length l.fn.g.nodes ≤ length l.g.nodes;
}
