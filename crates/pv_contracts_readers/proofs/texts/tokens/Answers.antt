use Rattle.pv_contracts_readers.proofs.texts.tokens.Goals as goal

pub returns-clause-found : goal.returns-clause-found
returns-clause-found c = c.tokens.ensures.found

pub returns-clause-refused : goal.returns-clause-refused
returns-clause-refused c = c.tokens.ensures.refused
