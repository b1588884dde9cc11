use Rattle.pv_contracts_flow.proofs.copies.inlined_size.Goals as goal

pub returns-clause-size : goal.returns-clause-size
returns-clause-size c = c.inlined_size.ensures.size

pub returns-clause-large : goal.returns-clause-large
returns-clause-large c = c.inlined_size.ensures.large
