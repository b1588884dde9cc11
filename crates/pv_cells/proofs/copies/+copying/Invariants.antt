use Rattle.std.proofs.Common.{◌≡◌, take}
use Rattle.pv_types.specs.View.{var_trees}
use Rattle.pv_cells.proofs.copies.+copying.Given as goal

abbrev pub invariant-copied_vars-loop-of : goal.invariant-copied_vars-loop-of
invariant-copied_vars-loop-of l = var_trees l.copies.items ≡ var_trees (take l.of-index l.vars)
