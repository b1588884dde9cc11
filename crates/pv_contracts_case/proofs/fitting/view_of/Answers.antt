use Rattle.pv_contracts_case.proofs.fitting.view_of.Goals as goal

pub returns-clause-found : goal.returns-clause-found
returns-clause-found c = c.view_of.ensures.found

pub returns-clause-rest : goal.returns-clause-rest
returns-clause-rest c = c.view_of.ensures.rest

pub returns-clause-params : goal.returns-clause-params
returns-clause-params c = c.view_of.ensures.params

pub returns-clause-bound : goal.returns-clause-bound
returns-clause-bound c = c.view_of.ensures.bound

pub returns-clause-stray : goal.returns-clause-stray
returns-clause-stray c = c.view_of.ensures.stray

pub returns-clause-misfit : goal.returns-clause-misfit
returns-clause-misfit c = c.view_of.ensures.misfit
