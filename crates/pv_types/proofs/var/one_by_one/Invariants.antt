use Rattle.std.proofs.Common.{◌≡◌, ◌++◌, map, drop}
use Rattle.pv_types.specs.View.{var_tree, var_trees}
use Rattle.pv_types.proofs.var.one_by_one.Given as goal

abbrev pub invariant-loop-of : goal.invariant-loop-of
invariant-loop-of l =
    map var_tree l.vars.items ++ var_trees (drop l.of-index l.declared) ≡ var_trees l.declared
