use Rattle.std.proofs.Common.{◌≡◌, map, drop}
use Rattle.std.specs.List.{list_any}
use Rattle.pv_tree.specs.Sorts as sorts
use Rattle.pv_names.specs.Sorts.{sort_tree}
use Rattle.pv_rules_expr.proofs.misfit.has_whole.Given as goal

abbrev pub invariant-loop-part : goal.invariant-loop-part
invariant-loop-part l =
    list_any sorts.is_whole (map sort_tree l.parts) ≡ list_any sorts.is_whole (map sort_tree (drop l.part-index l.parts))
