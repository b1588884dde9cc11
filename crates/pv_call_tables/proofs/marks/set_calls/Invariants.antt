use Rattle.std.proofs.Common.{◌≡◌, ◌≤◌, drop, length}
use Rattle.pv_call_tables.specs.Standings.{with_calls}
use Rattle.pv_call_tables.proofs.marks.set_calls.Given as goal

abbrev pub invariant-loop-number : goal.invariant-loop-number
invariant-loop-number l = record {
  within : l.number ≤ length l.calls;
  put : l.at ≡ with_calls l.fn.at l.number (drop l.number l.calls);
}

abbrev pub decreases-loop-number : goal.decreases-loop-number
decreases-loop-number l = l.number
