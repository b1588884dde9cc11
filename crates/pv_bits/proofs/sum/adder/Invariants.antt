use Rattle.std.proofs.Common.{◌≡◌, ◌≤◌, length, drop, All}
use Rattle.pv_gate.specs.Node.{Names}
use Rattle.pv_gate.specs.Building.{and_then, each, pairs, done}
use Rattle.pv_gate.proofs.ForCallers.{Leads}
use Rattle.pv_bits.specs.Circuits.{adder, adder_bit}
use Rattle.pv_bits.proofs.sum.adder.Given as goal

-- the bits from here on lead to what all of them lead to
abbrev pub invariant-loop-i : goal.invariant-loop-i
invariant-loop-i l = record {
  leads : Leads l.fn.g l.g (adder l.a l.b l.fn.carry) (and_then (each adder_bit (l.sum, l.carry) (drop l.i (pairs l.a l.b))) (λ s. done s.0));
  names : All (Names (length l.g.nodes)) l.sum;
  carry : Names (length l.g.nodes) l.carry;
  width : length l.sum ≡ l.i;
  longer : length l.fn.g.nodes ≤ length l.g.nodes;
}
