use Rattle.pv_contracts_load.proofs.fitted.Goals as goal

pub returns-clause-found : goal.returns-clause-found
returns-clause-found c = c.fitted.ensures.found

pub returns-clause-params : goal.returns-clause-params
returns-clause-params c = c.fitted.ensures.params

pub returns-clause-bytes : goal.returns-clause-bytes
returns-clause-bytes c = c.fitted.ensures.bytes

pub returns-clause-stopped : goal.returns-clause-stopped
returns-clause-stopped c = c.fitted.ensures.stopped
