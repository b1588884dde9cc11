use Rattle.std.proofs.Common.{◌≡◌, map, take, drop, None, []}
use Rattle.pv_tree.specs.View.{instr_tree}
use Rattle.pv_rules_instr.specs.AtLabels.{FindsLabels, later_from}
use Rattle.pv_rules_instr.proofs.label.labels_of.Given as goal

abbrev pub invariant-loop-number : goal.invariant-loop-number
invariant-loop-number l = record {
  met : FindsLabels l.table (map instr_tree (take l.number l.list));
  left : later_from (map instr_tree (take l.number l.list)) (map instr_tree (drop l.number l.list)) l.doubled
      ≡ later_from [] (map instr_tree l.list) None;
}
