use Rattle.std.proofs.Common.{None, arith}
use Rattle.pv_run.proofs.Blocks.{cleared_next, cleared_all}
use Rattle.pv_run.proofs.run.clear.Goals as goal

pub loop-i-preserved : goal.loop-i-preserved
loop-i-preserved c = cleared_next c.loop-i.i c.loop-i.cells c.args.cells.now None (omega arith) c.loop-i.invariant

pub returns : goal.returns
returns c = cleared_all c.loop-i.i c.loop-i.cells c.args.cells.now None (omega arith) c.loop-i.invariant
