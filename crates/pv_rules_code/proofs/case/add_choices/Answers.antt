use Rattle.std.proofs.Common.{refl}
use Rattle.pv_names.specs.InScope.{scope_of}
use Rattle.pv_names.specs.Sorts.{want_tree}
use Rattle.pv_rules_code.specs.AtCases.{value_at}
use Rattle.pv_rules_code.specs.Nears.{near_pick}
use Rattle.pv_rules_code.proofs.StmtSeen.{next_choice}
use Rattle.pv_rules_code.proofs.case.add_choices.Goals as goal

pub loop-choice-preserved : goal.loop-choice-preserved
loop-choice-preserved c =
    λ what. next_choice (value_at what (scope_of c.args.scope.now) (want_tree c.args.want)) c.loop-choice.choice-index _
    (near_pick what c.loop-choice.picks) (near_pick what c.add_range.new.picks) _ c.args.choices.now c.choice-item.result c.loop-choice-test.true
    c.choice-item.is refl (c.add_range.ensures what) (c.loop-choice.invariant what)
