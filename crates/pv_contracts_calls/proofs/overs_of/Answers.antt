use Rattle.pv_contracts_calls.proofs.overs_of.Goals as goal

pub returns-clause-made : goal.returns-clause-made
returns-clause-made c = c.overs_of.ensures.made

pub returns-clause-short : goal.returns-clause-short
returns-clause-short c = c.overs_of.ensures.short
