use Rattle.pv_contracts_readers.proofs.sharing.first_outside.Goals as goal

pub returns-clause-found : goal.returns-clause-found
returns-clause-found c = c.first_outside.ensures.found

pub returns-clause-token : goal.returns-clause-token
returns-clause-token c = c.first_outside.ensures.token

pub returns-clause-none : goal.returns-clause-none
returns-clause-none c = c.first_outside.ensures.none
