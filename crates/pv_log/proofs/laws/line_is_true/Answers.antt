use Rattle.pv_log.proofs.Sound.{line-true}
use Rattle.pv_log.proofs.laws.line_is_true.Goals as goal

pub returns : goal.returns
returns c = λ variables clauses line values follows holds. line-true values variables clauses line follows holds
