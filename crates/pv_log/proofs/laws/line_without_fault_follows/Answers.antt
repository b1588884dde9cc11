use Rattle.pv_log.proofs.FollowLaws.{faultless-follows, follows-faultless}
use Rattle.pv_log.proofs.NewLaws.{faultless-new, new-faultless}
use Rattle.pv_log.proofs.laws.line_without_fault_follows.Goals as goal

pub returns-clause-follows : goal.returns-clause-follows
returns-clause-follows c = λ variables clauses line. (faultless-follows variables clauses line, follows-faultless variables clauses line)

pub returns-clause-fresh : goal.returns-clause-fresh
returns-clause-fresh c = λ variables clauses line. (faultless-new variables clauses line, new-faultless variables clauses line)
