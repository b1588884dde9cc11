use Rattle.pv_contracts_calls.proofs.edges_of.Goals as goal

pub returns-clause-made : goal.returns-clause-made
returns-clause-made c = c.edges_of.ensures.made

pub returns-clause-short : goal.returns-clause-short
returns-clause-short c = c.edges_of.ensures.short
