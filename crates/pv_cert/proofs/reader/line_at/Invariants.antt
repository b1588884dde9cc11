use Rattle.std.proofs.Common.{◌+◌, ◌≤◌, length}
use Rattle.pv_cert.proofs.LineNumbers.{Standing}
use Rattle.pv_cert.proofs.reader.line_at.Given as goal

abbrev pub invariant-loop-rest : goal.invariant-loop-rest
invariant-loop-rest l = record {
  standing : Standing l.text l.left l.rest l.line;
  short : l.line + length l.rest ≤ length l.text + 1;
}

abbrev pub decreases-loop-rest : goal.decreases-loop-rest
decreases-loop-rest l = length l.rest
