use Rattle.std.proofs.Common.{arith}
use Rattle.pv_log.proofs.FollowLaws.{outside-wider}
use Rattle.pv_log.proofs.follow.follow.Goals as goal

pub follow_last-requires : goal.follow_last-requires
follow_last-requires g c = outside-wider (g.F.ClauseView.variables c.args.f.now) c.loop-i.values.variables c.in-Some.clause.now (omega arith) c.in-Some.ensures.inside

pub follow_unit-requires : goal.follow_unit-requires
follow_unit-requires g c = outside-wider (g.F.ClauseView.variables c.args.f.now) c.loop-i.values.variables c.in-Some.clause.now (omega arith) c.in-Some.ensures.inside
