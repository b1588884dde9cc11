use Rattle.std.proofs.Common.{◌≤◌, length, drop}
use Rattle.pv_gate.specs.Node.{Names}
use Rattle.pv_gate.specs.Building.{each, pairs}
use Rattle.pv_gate.proofs.ForCallers.{Leads}
use Rattle.pv_bits.specs.Circuits.{less_unsigned, less_bit}
use Rattle.pv_bits.proofs.compare.less_unsigned.Given as goal

-- the bits from here on lead to what all of them lead to
abbrev pub invariant-loop-i : goal.invariant-loop-i
invariant-loop-i l = record {
  leads : Leads l.fn.g l.g (less_unsigned l.a l.b) (each less_bit l.so_far (drop l.i (pairs l.a l.b)));
  names : Names (length l.g.nodes) l.so_far;
  longer : length l.fn.g.nodes ≤ length l.g.nodes;
}
