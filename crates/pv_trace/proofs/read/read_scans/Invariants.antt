use Rattle.std.proofs.Common.{◌≡◌, ◌+◌, ◌≤◌, length}
use Rattle.pv_trace.specs.Scans.{HasScans}
use Rattle.pv_trace.proofs.read.read_scans.Given as goal

-- the scans so far are read
abbrev pub invariant-loop-next : goal.invariant-loop-next
invariant-loop-next l = record {
  read : HasScans l.ranges l.text l.rest l.scans;
  number : l.line ≡ length l.scans + 3;
  short : l.line + length l.rest ≤ length l.text + 3;
}

abbrev pub decreases-loop-next : goal.decreases-loop-next
decreases-loop-next l = length l.rest
