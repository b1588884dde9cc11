use Rattle.std.proofs.Common.{rules, arith}
use Rattle.pv_run.proofs.Lists.{missing_at, found_at}
use Rattle.pv_run.proofs.Left.{arms_none, arms_here, arms_later, arms_stop, arms_over}
use Rattle.pv_run.proofs.program.Program.arm_of.Goals as goal

pub returns-in_default : goal.returns-in_default
returns-in_default c =
    λ source block k trees are. absurd (arms_none (c.loop-i.invariant source block k trees are) c.loop-i-test.true
    (missing_at c.deref.result.now c.args.self.now.arms.items c.loop-i.i c.deref.ensures.value (omega
    (arith, c.in_default.ensures.lookup.3))))

pub returns-in-Ok-true : goal.returns-in-Ok-true
returns-in-Ok-true c =
    λ source block k trees are. arms_here (c.loop-i.invariant source block k trees are) c.loop-i-test.true c.in-Some.arm.now
    (found_at c.deref.result.now c.args.self.now.arms.items c.loop-i.i c.in-Some.arm.now c.deref.ensures.value (search rules)
    (search rules))
    (search rules)

pub returns-in-Err : goal.returns-in-Err
returns-in-Err c =
    λ source block k trees are. arms_stop (c.loop-i.invariant source block k trees are) c.loop-i-test.true c.in-Some.arm.now
    (found_at c.deref.result.now c.args.self.now.arms.items c.loop-i.i c.in-Some.arm.now c.deref.ensures.value (search rules)
    (search rules))
    c.in-Err.stop (search rules)

pub loop-i-preserved : goal.loop-i-preserved
loop-i-preserved c =
    λ source block k trees are. arms_later (c.loop-i.invariant source block k trees are) c.loop-i-test.true c.in-Some.arm.now
    (found_at c.deref.result.now c.args.self.now.arms.items c.loop-i.i c.in-Some.arm.now c.deref.ensures.value (search rules)
    (search rules))
    (search rules)

pub returns : goal.returns
returns c = λ source block k trees are. arms_over (c.loop-i.invariant source block k trees are) (λ lt. omega arith)
