use Rattle.std.proofs.Common.{◌≡◌, map, take}
use Rattle.pv_tree.specs.View.{instr_tree}
use Rattle.pv_rules_instr.specs.AtLabels.{FindsLabels}
use Rattle.pv_rules_instr.specs.AtRanges.{goal_of}
use Rattle.pv_rules_instr.proofs.numbers.goals_of.Given as goal

abbrev pub invariant-loop-instr : goal.invariant-loop-instr
invariant-loop-instr l =
    FindsLabels l.table (map instr_tree l.list)
    → l.goals.items ≡ map (goal_of (map instr_tree l.list)) (map instr_tree (take l.instr-index l.list))
