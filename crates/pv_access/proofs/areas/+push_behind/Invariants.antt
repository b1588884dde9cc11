use Rattle.pv_access.proofs.areas.+push_behind.Given as goal

abbrev pub decreases-push_behind : goal.decreases-push_behind
decreases-push_behind l = l.count
