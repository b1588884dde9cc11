use Rattle.pv_solver.proofs.Enough.{false-lemmas, false-words}
use Rattle.pv_solver.proofs.laws.propagation_spends_nothing.Goals as goal

pub returns-clause-lemmas : goal.returns-clause-lemmas
returns-clause-lemmas c = false-lemmas

pub returns-clause-words : goal.returns-clause-words
returns-clause-words c = false-words
