use Rattle.pv_contracts_logs.proofs.solver.solve.Goals as goal

pub returns-clause-answered : goal.returns-clause-answered
returns-clause-answered c = c.solve.ensures.answered

pub returns-clause-problem : goal.returns-clause-problem
returns-clause-problem c = c.solve.ensures.problem

pub returns-clause-again : goal.returns-clause-again
returns-clause-again c = c.solve.ensures.again

pub returns-clause-sat : goal.returns-clause-sat
returns-clause-sat c = c.solve.ensures.sat

pub returns-clause-unsat : goal.returns-clause-unsat
returns-clause-unsat c = c.solve.ensures.unsat

pub returns-clause-spent_lemmas : goal.returns-clause-spent_lemmas
returns-clause-spent_lemmas c = c.solve.ensures.spent_lemmas

pub returns-clause-spent_region : goal.returns-clause-spent_region
returns-clause-spent_region c = c.solve.ensures.spent_region
