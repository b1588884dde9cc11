use Rattle.std.proofs.Common.{◌≡◌, ◌++◌, drop, None}
use Rattle.std.proofs.Math.ListN.{replicate}
use Rattle.pv_run.proofs.run.clear.Given as goal

abbrev pub invariant-loop-i : goal.invariant-loop-i
invariant-loop-i l = l.cells ≡ replicate l.i None ++ drop l.i l.fn.cells
