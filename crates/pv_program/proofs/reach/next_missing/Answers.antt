use Rattle.std.proofs.Common.{refl, arith, ◌+◌}
use Rattle.pv_program.proofs.Reaching.{made-next, made-all}
use Rattle.pv_program.proofs.reach.next_missing.Goals as goal

pub loop-i-preserved : goal.loop-i-preserved
loop-i-preserved c = λ before.
    made-next c.args.codes.now c.args.calls.now c.loop-i.i (c.loop-i.i + 1) _ refl c.loop-i-test.true c.in_default.ensures.none
    (c.loop-i.invariant before)

pub returns-clause-none : goal.returns-clause-none
returns-clause-none c = λ before. made-all c.args.codes.now c.args.calls.now c.loop-i.i (omega arith) (c.loop-i.invariant before)
