use Rattle.pv_contracts_calls.proofs.traps_of.Goals as goal

pub returns-clause-made : goal.returns-clause-made
returns-clause-made c = c.traps_of.ensures.made

pub returns-clause-short : goal.returns-clause-short
returns-clause-short c = c.traps_of.ensures.short
