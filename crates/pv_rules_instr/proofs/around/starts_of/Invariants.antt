use Rattle.std.proofs.Common.{reverse}
use Rattle.pv_rules_instr.proofs.StackLaws.{MetStarts, HasStarts}
use Rattle.pv_rules_instr.proofs.around.starts_of.Given as goal

abbrev pub invariant-loop-n : goal.invariant-loop-n
invariant-loop-n l = record {
  met : MetStarts l.lasts l.n (reverse l.met.items);
  starts : HasStarts l.lasts l.n l.starts.items;
}
