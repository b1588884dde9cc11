use Rattle.std.proofs.Common.{◌≡◌, ◌≤◌, drop, length}
use Rattle.pv_unroll.specs.Endings.{with_overs}
use Rattle.pv_unroll.proofs.endings.set_overs.Given as goal

abbrev pub invariant-loop-number : goal.invariant-loop-number
invariant-loop-number l = record {
  within : l.number ≤ length l.overs;
  put : l.endings ≡ with_overs l.fn.endings (drop l.number l.overs);
}

abbrev pub decreases-loop-number : goal.decreases-loop-number
decreases-loop-number l = l.number
