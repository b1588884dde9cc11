use Rattle.pv_contracts_calls.proofs.counts.Goals as goal

pub returns-clause-found : goal.returns-clause-found
returns-clause-found c = c.counts.ensures.found

pub returns-clause-short : goal.returns-clause-short
returns-clause-short c = c.counts.ensures.short
