use Rattle.std.proofs.Common.{◌≡◌, ◌≤◌, ◌+◌, ◌++◌, ◌∷◌, [], length, drop, All}
use Rattle.std.specs.Prelude.{reverse}
use Rattle.pv_gate.specs.Node.{Names, false_literal}
use Rattle.pv_gate.specs.Building.{and_then, each, done}
use Rattle.pv_gate.proofs.ForCallers.{Leads}
use Rattle.pv_bits.specs.Circuits.{divide_unsigned, divide_bit, below_top}
use Rattle.pv_bits.proofs.quotient.divide_unsigned.Given as goal

-- the bits from here on, which are the lower ones, lead to what all of them lead to
abbrev pub invariant-loop-i : goal.invariant-loop-i
invariant-loop-i l = record {
  leads : Leads l.fn.g l.g (divide_unsigned l.a l.b) (and_then (each (divide_bit (l.b ++ false_literal ∷ [])) (reverse l.quotient, l.left) (drop l.i (reverse l.a))) (λ s. done (s.0, below_top s.1)));
  quotient : All (Names (length l.g.nodes)) l.quotient;
  left : All (Names (length l.g.nodes)) l.left;
  quotient_width : length l.quotient ≡ l.i;
  left_width : length l.left ≡ length l.a + 1;
  longer : length l.fn.g.nodes ≤ length l.g.nodes;
}
