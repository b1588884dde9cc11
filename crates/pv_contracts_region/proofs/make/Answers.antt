use Rattle.pv_contracts_region.proofs.make.Goals as goal

pub returns-clause-ok : goal.returns-clause-ok
returns-clause-ok c = c.make.ensures.ok

pub returns-clause-full : goal.returns-clause-full
returns-clause-full c = c.make.ensures.full
