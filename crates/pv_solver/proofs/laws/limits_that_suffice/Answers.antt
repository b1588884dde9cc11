use Rattle.pv_solver.proofs.Enough.{few-lemmas, few-words}
use Rattle.pv_solver.proofs.laws.limits_that_suffice.Goals as goal

pub returns-clause-lemmas : goal.returns-clause-lemmas
returns-clause-lemmas c = few-lemmas

pub returns-clause-words : goal.returns-clause-words
returns-clause-words c = few-words
