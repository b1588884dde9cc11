use Rattle.std.proofs.Common.{◌≡◌, map, drop}
use Rattle.std.specs.List.{list_any}
use Rattle.pv_tree.specs.View.{operand_tree}
use Rattle.pv_names.specs.InScope.{scope_of}
use Rattle.pv_pattern.specs.Texts.{is_brief_operand}
use Rattle.pv_pattern_read.proofs.brief.one_is_brief.Given as goal

abbrev pub invariant-loop-operand : goal.invariant-loop-operand
invariant-loop-operand l =
    list_any (is_brief_operand (scope_of l.scope)) (map (λ o. operand_tree o.now) l.operands)
    ≡ list_any (is_brief_operand (scope_of l.scope)) (map (λ o. operand_tree o.now) (drop l.operand-index l.operands))
