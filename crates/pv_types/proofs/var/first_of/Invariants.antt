use Rattle.std.proofs.Common.{◌≡◌, length}
use Rattle.pv_types.specs.View.{var_trees}
use Rattle.pv_types.proofs.var.first_of.Given as goal

-- what was passed has no names
abbrev pub invariant-loop-of : goal.invariant-loop-of
invariant-loop-of l = var_trees l.vars ≡ var_trees l.left

abbrev pub decreases-loop-of : goal.decreases-loop-of
decreases-loop-of l = length l.left
