use Rattle.std.proofs.Common.{◌≡◌, map, drop}
use Rattle.std.specs.List.{list_any}
use Rattle.pv_types.specs.View.{var_tree}
use Rattle.pv_rules_code.specs.AtGiven.{is_out}
use Rattle.pv_rules_code.proofs.given.some_out.Given as goal

abbrev pub invariant-loop-var : goal.invariant-loop-var
invariant-loop-var l = list_any (is_out l.table) (map var_tree l.vars) ≡ list_any (is_out l.table) (map var_tree (drop l.var-index l.vars))
