use Rattle.std.proofs.Common.{◌≡◌, map, drop}
use Rattle.pv_tree.specs.View.{instr_tree}
use Rattle.pv_rules_expr.specs.NearestIn.{nearest_in}
use Rattle.pv_rules_instr.specs.AtLabels.{label_place, missing_at}
use Rattle.pv_rules_instr.proofs.label.label_place.Given as goal

abbrev pub invariant-loop-instr : goal.invariant-loop-instr
invariant-loop-instr l =
    nearest_in (missing_at (map instr_tree l.list)) (map instr_tree (drop l.instr-index l.list)) l.best ≡ label_place (map instr_tree l.list)
