use Rattle.std.proofs.Common.{reverse}
use Rattle.pv_rules_instr.proofs.StackLaws.{MetEnds, HasEnds}
use Rattle.pv_rules_instr.proofs.around.ends_of.Given as goal

abbrev pub invariant-loop-n : goal.invariant-loop-n
invariant-loop-n l = record {
  met : MetEnds l.firsts l.n (reverse l.met.items);
  ends : HasEnds l.firsts l.n l.ends.items;
}

abbrev pub decreases-loop-n : goal.decreases-loop-n
decreases-loop-n l = l.n
