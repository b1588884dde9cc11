use Rattle.std.proofs.Common.{arith}
use Rattle.pv_program.proofs.Reaching.{adds-put, coded-pushed, pushed-falls}
use Rattle.pv_program.proofs.grow.count_code.Goals as goal

pub loop-codes-init : goal.loop-codes-init
loop-codes-init c = λ n has. has

pub loop-codes-smaller : goal.loop-codes-smaller
loop-codes-smaller c = pushed-falls c.loop-codes.codes.items c.push.new.self.items _ c.args.block c.in_ok-push.ensures.items (omega arith)

pub loop-codes-preserved : goal.loop-codes-preserved
loop-codes-preserved c = λ n has.
    coded-pushed c.loop-codes.codes.items c.push.new.self.items _ n c.in_ok-push.ensures.items (c.loop-codes.invariant n has)

pub returns : goal.returns
returns c =
    let adds = adds-put c.loop-codes.codes.items c.put_code.new.codes.items c.args.block _ c.put_code.ensures (omega arith) in
    record { coded = adds.now; kept = λ n has. adds.kept n (c.loop-codes.invariant n has) }
