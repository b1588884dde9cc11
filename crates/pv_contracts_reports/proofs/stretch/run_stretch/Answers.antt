use Rattle.pv_contracts_reports.proofs.stretch.run_stretch.Goals as goal

pub returns-clause-stretch : goal.returns-clause-stretch
returns-clause-stretch c = c.run_stretch.ensures.stretch

pub returns-clause-counted : goal.returns-clause-counted
returns-clause-counted c = c.run_stretch.ensures.counted

pub returns-clause-lent : goal.returns-clause-lent
returns-clause-lent c = c.run_stretch.ensures.lent

pub returns-clause-of : goal.returns-clause-of
returns-clause-of c = c.run_stretch.ensures.of
