use Rattle.pv_contracts_case.proofs.fitting.entry_of.Goals as goal

pub returns-clause-found : goal.returns-clause-found
returns-clause-found c = c.entry_of.ensures.found

pub returns-clause-none : goal.returns-clause-none
returns-clause-none c = c.entry_of.ensures.none
