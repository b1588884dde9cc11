use Rattle.pv_contracts_claims.proofs.texts.strip.Goals as goal

pub returns-clause-found : goal.returns-clause-found
returns-clause-found c = c.strip.ensures.found

pub returns-clause-none : goal.returns-clause-none
returns-clause-none c = c.strip.ensures.none
