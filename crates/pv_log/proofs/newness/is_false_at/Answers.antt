use Rattle.pv_log.proofs.FollowLaws.{outside-wider}
use Rattle.pv_log.proofs.newness.is_false_at.Goals as goal

pub all_false-requires : goal.all_false-requires
all_false-requires g c = outside-wider (g.F.ClauseView.variables c.args.f.now) c.args.values.now.variables c.in-Some.clause.now c.requires.enough c.in-Some.ensures.inside
