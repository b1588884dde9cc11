use Rattle.pv_contracts_calls.proofs.add.Goals as goal

pub returns-clause-sum : goal.returns-clause-sum
returns-clause-sum c = c.add.ensures.sum

pub returns-clause-large : goal.returns-clause-large
returns-clause-large c = c.add.ensures.large
