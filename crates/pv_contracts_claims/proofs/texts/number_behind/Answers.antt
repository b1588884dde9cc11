use Rattle.pv_contracts_claims.proofs.texts.number_behind.Goals as goal

pub returns-clause-found : goal.returns-clause-found
returns-clause-found c = c.number_behind.ensures.found

pub returns-clause-none : goal.returns-clause-none
returns-clause-none c = c.number_behind.ensures.none
