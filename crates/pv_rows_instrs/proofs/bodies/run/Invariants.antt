use Rattle.std.proofs.Common.{◌≤◌, length}
use Rattle.pv_rows_instrs.proofs.bodies.run.Given as goal

-- the ranges that were entered have their turns
abbrev pub invariant-loop-call : goal.invariant-loop-call
invariant-loop-call l = l.going.entered ≤ length l.turns
