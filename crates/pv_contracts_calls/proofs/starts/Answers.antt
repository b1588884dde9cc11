use Rattle.pv_contracts_calls.proofs.starts.Goals as goal

pub returns-clause-starts : goal.returns-clause-starts
returns-clause-starts c = c.starts.ensures.starts

pub returns-clause-short : goal.returns-clause-short
returns-clause-short c = c.starts.ensures.short
