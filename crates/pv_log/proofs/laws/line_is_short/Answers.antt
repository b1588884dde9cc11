use Rattle.pv_log.proofs.Short.{few-lits, few-hints}
use Rattle.pv_log.proofs.laws.line_is_short.Goals as goal

pub returns-clause-lits : goal.returns-clause-lits
returns-clause-lits c = few-lits

pub returns-clause-hints : goal.returns-clause-hints
returns-clause-hints c = few-hints
