use Rattle.std.proofs.Common.{◌≡◌, drop, map, None}
use Rattle.std.specs.Prelude.{option_map}
use Rattle.pv_types.specs.View.{var_tree}
use Rattle.pv_names.specs.Params.{sole_input}
use Rattle.pv_names.proofs.needed.sole_input.Given as goal

abbrev pub invariant-loop-var : goal.invariant-loop-var
invariant-loop-var l =
    sole_input (option_map var_tree l.found) (map var_tree (drop l.var-index l.vars)) ≡ sole_input None (map var_tree l.vars)
