use Rattle.std.proofs.Common.{◌≡◌, map, drop, reverse}
use Rattle.pv_tree.specs.View.{instr_tree}
use Rattle.pv_rules_instr.specs.AtNestings.{nesting_from, nesting_place}
use Rattle.pv_rules_instr.proofs.nesting.nesting_place.Given as goal

abbrev pub invariant-loop-instr : goal.invariant-loop-instr
invariant-loop-instr l =
    nesting_from (reverse l.pending.items) (map instr_tree (drop l.instr-index l.list)) l.best ≡ nesting_place (map instr_tree l.list)
