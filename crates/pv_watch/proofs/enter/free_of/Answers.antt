use Rattle.std.proofs.Common.{None}
use Rattle.pv_watch.proofs.Looking.{whole-replaces}
use Rattle.pv_watch.proofs.Entering.{free-some}
use Rattle.pv_watch.proofs.enter.free_of.Goals as goal

pub unreachable-requires : goal.unreachable-requires
unreachable-requires c = free-some c.args.trail.now.variables c.args.trail.now.falses c.args.lits.now c.requires.inside c.requires.unset (whole-replaces c.args.trail.now.falses c.args.lits.now 0 c.len.result None c.len.ensures.len c.in-None.ensures)
