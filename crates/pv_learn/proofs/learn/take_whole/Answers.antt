use Rattle.std.proofs.Common.{◌-◌, drop, arith}
use Rattle.pv_learn.proofs.Counts.{few-taken}
use Rattle.pv_learn.proofs.learn.take_whole.Goals as goal

pub set-requires-clause-lits : goal.set-requires-clause-lits
set-requires-clause-lits c =
    few-taken c.args.from _ c.falses-falses.result.now (omega (arith, c.requires.from, c.requires.room.lits, c.len-upto.ensures.bound, c.len-upto.ensures.len))

pub set-requires-clause-hints : goal.set-requires-clause-hints
set-requires-clause-hints c =
    let few = few-taken (c.len-upto.result - c.args.from) c.args.trail.now.variables (drop c.args.from c.reasons-reasons.result.now)
    (omega (arith, c.len-upto.ensures.bound)) in
    omega (arith, few, c.requires.room.hints)
