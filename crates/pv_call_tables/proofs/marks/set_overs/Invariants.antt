use Rattle.std.proofs.Common.{◌≡◌, ◌≤◌, drop, length}
use Rattle.pv_call_tables.specs.Standings.{with_overs}
use Rattle.pv_call_tables.proofs.marks.set_overs.Given as goal

abbrev pub invariant-loop-number : goal.invariant-loop-number
invariant-loop-number l = record {
  within : l.number ≤ length l.overs;
  put : l.ends ≡ with_overs l.fn.ends (drop l.number l.overs);
}

abbrev pub decreases-loop-number : goal.decreases-loop-number
decreases-loop-number l = l.number
