use Rattle.std.proofs.Common.{◌≡◌, ◌≤◌, length, drop, All}
use Rattle.pv_gate.specs.Node.{Names}
use Rattle.pv_gate.specs.Building.{each}
use Rattle.pv_gate.proofs.ForCallers.{Leads}
use Rattle.pv_bits.specs.Circuits.{and_each, and_bit}
use Rattle.pv_bits.proofs.product.and_each.Given as goal

-- the bits from here on lead to what all of them lead to
abbrev pub invariant-loop-i : goal.invariant-loop-i
invariant-loop-i l = record {
  leads : Leads l.fn.g l.g (and_each l.word l.bit) (each (and_bit l.bit) l.made (drop l.i l.word));
  names : All (Names (length l.g.nodes)) l.made;
  width : length l.made ≡ l.i;
  longer : length l.fn.g.nodes ≤ length l.g.nodes;
}
