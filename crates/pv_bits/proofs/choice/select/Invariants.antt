use Rattle.std.proofs.Common.{◌≡◌, ◌≤◌, length, drop, All}
use Rattle.pv_gate.specs.Node.{Names}
use Rattle.pv_gate.specs.Building.{each, pairs}
use Rattle.pv_gate.proofs.ForCallers.{Leads}
use Rattle.pv_bits.specs.Circuits.{select, select_bit}
use Rattle.pv_bits.proofs.choice.select.Given as goal

-- the bits from here on lead to what all of them lead to
abbrev pub invariant-loop-i : goal.invariant-loop-i
invariant-loop-i l = record {
  leads : Leads l.fn.g l.g (select l.s l.a l.b) (each (select_bit l.s) l.word (drop l.i (pairs l.a l.b)));
  names : All (Names (length l.g.nodes)) l.word;
  width : length l.word ≡ l.i;
  longer : length l.fn.g.nodes ≤ length l.g.nodes;
}
