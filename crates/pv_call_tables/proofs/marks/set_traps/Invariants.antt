use Rattle.std.proofs.Common.{◌≡◌, ◌≤◌, drop, length}
use Rattle.pv_call_tables.specs.Standings.{with_traps}
use Rattle.pv_call_tables.proofs.marks.set_traps.Given as goal

abbrev pub invariant-loop-number : goal.invariant-loop-number
invariant-loop-number l = record {
  within : l.number ≤ length l.traps;
  put : l.ends ≡ with_traps l.fn.ends (drop l.number l.traps);
}

abbrev pub decreases-loop-number : goal.decreases-loop-number
decreases-loop-number l = l.number
