use Rattle.std.proofs.Common.{◌≡◌, drop}
use Rattle.pv_types.specs.View.{var_trees}
use Rattle.pv_tree.specs.Scopes.{first_var}
use Rattle.pv_names.proofs.scope.first_among.Given as goal

abbrev pub invariant-loop-of : goal.invariant-loop-of
invariant-loop-of l = first_var (var_trees (drop l.of-index l.vars)) l.name.key ≡ first_var (var_trees l.vars) l.name.key
