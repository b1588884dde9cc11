use Rattle.std.proofs.Common.{arith}
use Rattle.pv_watch.proofs.Places.{few}
use Rattle.pv_watch.proofs.trail.Trail.len.Goals as goal

pub returns-clause-bound : goal.returns-clause-bound
returns-clause-bound c =
    let i = c.self.inside in
    let bound = few i.variables i.places.items i.falses.items i.reasons.items i.starts.items c.self.invariant.0 in
    rw (← c.self.view_is) (omega arith)
