use Rattle.pv_contracts_calls.proofs.ranks.Goals as goal

pub returns-clause-found : goal.returns-clause-found
returns-clause-found c = c.ranks.ensures.found

pub returns-clause-short : goal.returns-clause-short
returns-clause-short c = c.ranks.ensures.short
