use Rattle.std.proofs.Common.{arith}
use Rattle.pv_watch.proofs.trail.Trail.is_true.Goals as goal

pub is_false-requires : goal.is_false-requires
is_false-requires c = omega (arith, c.requires, c.flip.ensures.complement)
