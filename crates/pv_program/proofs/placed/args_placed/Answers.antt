use Rattle.std.proofs.Common.{arith}
use Rattle.pv_program.proofs.Placing.{args-placed-whole}
use Rattle.pv_program.proofs.placed.args_placed.Goals as goal

pub returns : goal.returns
returns c =
    args-placed-whole c.args.at c.loop-arg.copies.items c.deref-arg-items.result.now c.args.args.now.items c.loop-arg.arg-index (omega arith)
    c.deref-arg-items.ensures.value c.loop-arg.invariant
