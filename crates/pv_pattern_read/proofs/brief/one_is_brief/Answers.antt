use Rattle.std.proofs.Common.{◌<◌, length, sym, ◌∙◌, arith, add-one}
use Rattle.pv_tree.specs.View.{operand_tree}
use Rattle.pv_names.specs.InScope.{scope_of}
use Rattle.pv_pattern.specs.Texts.{is_brief_operand}
use Rattle.pv_pattern_read.proofs.Walks.{any_here, any_later, any_none}
use Rattle.pv_pattern_read.proofs.brief.one_is_brief.Goals as goal

pub returns-then-is_brief_operand : goal.returns-then-is_brief_operand
returns-then-is_brief_operand c =
    let h : c.loop-operand.operand-index < length c.args.operands.now = omega arith in
    sym (c.loop-operand.invariant
    ∙ any_here (is_brief_operand (scope_of c.args.scope.now)) (λ o. operand_tree o.now) c.args.operands.now c.loop-operand.operand-index c.operand-item.result h
    c.operand-item.is (sym c.is_brief_operand.ensures ∙ c.if-is_brief_operand.true))

pub loop-operand-preserved : goal.loop-operand-preserved
loop-operand-preserved c =
    let h : c.loop-operand.operand-index < length c.args.operands.now = omega arith in
    rw add-one (c.loop-operand.invariant
    ∙ any_later (is_brief_operand (scope_of c.args.scope.now)) (λ o. operand_tree o.now) c.args.operands.now c.loop-operand.operand-index c.operand-item.result h
    c.operand-item.is (sym c.is_brief_operand.ensures ∙ c.if-is_brief_operand.false))

pub returns : goal.returns
returns c =
    sym (c.loop-operand.invariant
    ∙ any_none (is_brief_operand (scope_of c.args.scope.now)) (λ o. operand_tree o.now) c.args.operands.now c.loop-operand.operand-index (omega arith))
