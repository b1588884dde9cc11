use Rattle.std.proofs.Common.{◌≡◌, ◌+◌, map, drop}
use Rattle.pv_tree.specs.View.{exprs_of, expr_tree, steps_of, step_tree}
use Rattle.pv_names.specs.InScope.{scope_of}
use Rattle.pv_sizes.specs.Checks.{checks_of_each, checks_of_steps}
use Rattle.pv_sizes.specs.Counts.{capped}
use Rattle.pv_sizes.proofs.checks.+checking.Given as goal

abbrev pub invariant-expr_size-loop-arg : goal.invariant-expr_size-loop-arg
invariant-expr_size-loop-arg l = record {
  within : capped l.total ≡ l.total;
  total : capped (l.total + checks_of_each (scope_of l.scope) (exprs_of (map expr_tree (drop l.arg-index l.arg-items))))
      ≡ capped (checks_of_each (scope_of l.scope) (exprs_of (map expr_tree l.arg-items)));
}

abbrev pub invariant-target_size-loop-step : goal.invariant-target_size-loop-step
invariant-target_size-loop-step l = record {
  within : capped l.total ≡ l.total;
  total : capped (l.total + checks_of_steps (scope_of l.scope) (steps_of (map step_tree (drop l.step-index l.step-items))))
      ≡ capped (checks_of_steps (scope_of l.scope) (steps_of (map step_tree l.step-items)));
}
