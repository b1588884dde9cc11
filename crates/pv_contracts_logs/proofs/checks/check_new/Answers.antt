use Rattle.pv_contracts_logs.proofs.checks.check_new.Goals as goal

pub returns-clause-refuted : goal.returns-clause-refuted
returns-clause-refuted g c = c.check_new.ensures.refuted

pub returns-clause-accepted : goal.returns-clause-accepted
returns-clause-accepted g c = c.check_new.ensures.accepted

pub returns-clause-no_empty : goal.returns-clause-no_empty
returns-clause-no_empty g c = c.check_new.ensures.no_empty

pub returns-clause-refused : goal.returns-clause-refused
returns-clause-refused g c = c.check_new.ensures.refused

pub returns-clause-unchanged : goal.returns-clause-unchanged
returns-clause-unchanged g c = c.check_new.ensures.unchanged
