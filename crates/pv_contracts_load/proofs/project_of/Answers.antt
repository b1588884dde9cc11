use Rattle.pv_contracts_load.proofs.project_of.Goals as goal

pub returns-clause-found : goal.returns-clause-found
returns-clause-found c = c.project_of.ensures.found

pub returns-clause-stopped : goal.returns-clause-stopped
returns-clause-stopped c = c.project_of.ensures.stopped
