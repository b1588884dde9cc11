use Rattle.pv_contracts_logs.proofs.solver.make.Goals as goal

pub returns-clause-ok : goal.returns-clause-ok
returns-clause-ok c = c.make.ensures.ok

pub returns-clause-full : goal.returns-clause-full
returns-clause-full c = c.make.ensures.full

pub returns-clause-fits : goal.returns-clause-fits
returns-clause-fits c = c.make.ensures.fits
