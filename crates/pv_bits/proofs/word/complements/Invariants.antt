use Rattle.std.proofs.Common.{◌≡◌, take, All, length}
use Rattle.pv_gate.specs.Node.{Names}
use Rattle.pv_bits.specs.Circuits.{complements}
use Rattle.pv_bits.proofs.word.complements.Given as goal

abbrev pub invariant-loop-i : goal.invariant-loop-i
invariant-loop-i l = record {
  word : l.made ≡ complements (take l.i l.word);
  names : All (Names (length l.g.nodes)) l.made;
}
