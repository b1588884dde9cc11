use Rattle.std.proofs.Common.{map, refl}
use Rattle.pv_tree.specs.View.{instr_tree}
use Rattle.pv_rules_instr.specs.AtRanges.{goal_of}
use Rattle.pv_rules_instr.proofs.Meetings.{more_mapped}
use Rattle.pv_rules_instr.proofs.numbers.goals_of.Goals as goal

pub loop-instr-preserved : goal.loop-instr-preserved
loop-instr-preserved c = λ h.
    more_mapped instr_tree c.args.list.now c.loop-instr.instr-index _ c.instr-item.result c.loop-instr-test.true c.instr-item.is refl
    (goal_of (map instr_tree c.args.list.now)) c.loop-instr.goals.items c.push.new.self.items c.goal_of.result c.in_ok-push.ensures.items
    (c.goal_of.ensures (map instr_tree c.args.list.now) h) (c.loop-instr.invariant h)
