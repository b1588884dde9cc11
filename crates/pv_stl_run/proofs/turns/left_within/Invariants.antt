use Rattle.std.proofs.Common.{◌≡◌, ◌≤◌}
use Rattle.pv_stl_run.specs.Going.{left_to}
use Rattle.pv_stl_run.proofs.turns.left_within.Given as goal

abbrev pub decreases-loop-n : goal.decreases-loop-n
decreases-loop-n l = l.n

-- what is left to be looked at has the answer
abbrev pub invariant-loop-n : goal.invariant-loop-n
invariant-loop-n l = record {
  same : left_to l.at l.turns l.n ≡ left_to l.at l.turns l.entered;
  few : l.n ≤ l.entered;
}
