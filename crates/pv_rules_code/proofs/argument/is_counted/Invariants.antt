use Rattle.std.proofs.Common.{◌≡◌, map, drop}
use Rattle.std.specs.List.{list_any}
use Rattle.pv_tree.specs.Rules.Loops.{counts}
use Rattle.pv_rules_code.specs.Spots.{loop_tree}
use Rattle.pv_rules_code.proofs.argument.is_counted.Given as goal

abbrev pub invariant-loop-around : goal.invariant-loop-around
invariant-loop-around l =
    list_any (counts l.name.key) (map loop_tree l.loops) ≡ list_any (counts l.name.key) (map loop_tree (drop l.around-index l.loops))
