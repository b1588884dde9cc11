use Rattle.std.proofs.Common.{ℕ, ◌≤◌}
use Rattle.pv_solver.specs.Search.{IsFree}
use Rattle.pv_solver.proofs.pick.first_free.Given as goal

abbrev pub invariant-loop-v : goal.invariant-loop-v
invariant-loop-v l = (x : ℕ) → x ≤ l.v → IsFree l.trail.variables l.trail.falses x → ⊥
