use Rattle.std.proofs.Common.{length}
use Rattle.pv_access.proofs.setting.+push_where_all.Given as goal

abbrev pub decreases-push_where_all : goal.decreases-push_where_all
decreases-push_where_all l = length l.conditions.now
