use Rattle.std.proofs.Common.{◌++◌, drop}
use Rattle.pv_types.specs.View.{var_trees, listed}
use Rattle.pv_tree.specs.Interfaces.{types_in_vars, vars_in}
use Rattle.pv_rules_decl.specs.Declarations.{types_of, vars_of, HaveTheSame}
use Rattle.pv_rules_decl.proofs.gathered.Gathered.+gathering.Given as goal

abbrev pub invariant-add_vars-loop-of : goal.invariant-add_vars-loop-of
invariant-add_vars-loop-of l = record {
  types : HaveTheSame (types_of l.self ++ types_in_vars (listed (var_trees (drop l.of-index l.vars))))
      (types_of l.fn.self ++ types_in_vars (listed (var_trees l.vars)));
  vars : HaveTheSame (vars_of l.self ++ vars_in (listed (var_trees (drop l.of-index l.vars))))
      (vars_of l.fn.self ++ vars_in (listed (var_trees l.vars)));
}
