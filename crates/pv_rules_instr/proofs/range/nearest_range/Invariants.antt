use Rattle.std.proofs.Common.{◌≡◌, None, map, drop}
use Rattle.pv_tree.specs.View.{instr_tree}
use Rattle.pv_rules_instr.specs.AtRanges.{RangeNumbers, range_from}
use Rattle.pv_rules_instr.specs.Ranges.{IsRanges}
use Rattle.pv_rules_instr.proofs.range.nearest_range.Given as goal

abbrev pub invariant-loop-n : goal.invariant-loop-n
invariant-loop-n l = (r : RangeNumbers) → IsRanges l.ranges r
    → range_from r l.n (map instr_tree (drop l.n l.list)) l.best ≡ range_from r 0 (map instr_tree l.list) None
