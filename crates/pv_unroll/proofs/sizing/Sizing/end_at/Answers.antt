use Rattle.std.proofs.Common.{map}
use Rattle.pv_flow.specs.View.{loop_of}
use Rattle.pv_unroll.specs.Seen.{sizing_seen, taking_seen}
use Rattle.pv_unroll.proofs.Sized.{loop_step}
use Rattle.pv_unroll.proofs.sizing.Sizing.end_at.Goals as goal

pub loop-begun-preserved : goal.loop-begun-preserved
loop-begun-preserved c = loop_step (taking_seen c.args.taking) c.args.weights.now (map loop_of c.args.loops.now) c.args.at (sizing_seen c.loop-begun.self)
    (sizing_seen c.leave.new.self) _ c.in-Some.begun c.ending.result c.ending.ensures c.in-Some.is c.leave.ensures c.loop-begun.invariant
