use Rattle.std.proofs.Common.{◌≡◌, take}
use Rattle.pv_lift.proofs.trace.copied.Given as goal

-- the first values
abbrev pub invariant-loop-n : goal.invariant-loop-n
invariant-loop-n l = l.copy ≡ take l.n l.values
