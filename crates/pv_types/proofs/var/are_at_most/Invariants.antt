use Rattle.std.proofs.Common.{◌≡◌, ◌≤◌, ◌+◌, length, drop}
use Rattle.pv_types.specs.View.{var_trees}
use Rattle.pv_types.proofs.var.are_at_most.Given as goal

-- what is left, and what was passed, is as many as there may be
abbrev pub invariant-loop-of : goal.invariant-loop-of
invariant-loop-of l = record {
  within : l.left ≤ l.most;
  counted : l.most + length (var_trees (drop l.of-index l.declared)) ≡ l.left + length (var_trees l.declared);
}
