use Rattle.pv_contracts_flow.proofs.calls.unrolled_size.Goals as goal

pub returns-clause-size : goal.returns-clause-size
returns-clause-size c = c.unrolled_size.ensures.size

pub returns-clause-large : goal.returns-clause-large
returns-clause-large c = c.unrolled_size.ensures.large
