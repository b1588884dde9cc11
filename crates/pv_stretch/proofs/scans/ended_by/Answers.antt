use Rattle.std.proofs.Common.{◌∙◌}
use Rattle.pv_stretch.proofs.Scanning.{goal_is, done_is, trap_is}
use Rattle.pv_stretch.proofs.scans.ended_by.Goals as goal

pub returns-in-Done-clause-ends : goal.returns-in-Done-clause-ends
returns-in-Done-clause-ends c = λ source p of ready is within.
    done_is source c.args.replay.now c.scan.new.self c.args.input.now p c.args.prev c.begin.result.now c.end.result.now
    c.is_goal.result c.judge-holds.result c.judged.result (c.in-Done.ensures.scan source of ready within) c.begin.ensures.told
    c.end.ensures.told (c.is_goal.ensures ∙ goal_is source c.args.pattern.now p is) (c.judge-holds.ensures source p is)
    c.judged.ensures

pub returns-in-Trap-clause-ends : goal.returns-in-Trap-clause-ends
returns-in-Trap-clause-ends c = λ source p of ready is within.
    trap_is source c.args.replay.now c.scan.new.self c.args.input.now p c.args.prev c.in-Trap.kind c.in-Trap.place
    c.is_goal-in-Trap.result c.trapped.result (c.in-Trap.ensures.scan source of ready within)
    (c.is_goal-in-Trap.ensures ∙ goal_is source c.args.pattern.now p is) c.trapped.ensures
