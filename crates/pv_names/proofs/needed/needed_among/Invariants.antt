use Rattle.std.proofs.Common.{◌≡◌, map, take}
use Rattle.pv_types.specs.View.{var_tree}
use Rattle.pv_names.specs.Needed.{needed_among}
use Rattle.pv_names.proofs.needed.needed_among.Given as goal

abbrev pub invariant-loop-var : goal.invariant-loop-var
invariant-loop-var l = map var_tree l.needed.items ≡ needed_among l.kind (map var_tree (take l.var-index l.vars))
