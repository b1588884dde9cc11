use Rattle.pv_contracts_calls.proofs.behind.Goals as goal

pub returns-clause-number : goal.returns-clause-number
returns-clause-number c = c.behind.ensures.number

pub returns-clause-short : goal.returns-clause-short
returns-clause-short c = c.behind.ensures.short
