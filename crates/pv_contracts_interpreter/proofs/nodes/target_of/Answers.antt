use Rattle.pv_contracts_interpreter.proofs.nodes.target_of.Goals as goal

pub returns-clause-count : goal.returns-clause-count
returns-clause-count c = c.of.ensures.count

pub returns-clause-locates : goal.returns-clause-locates
returns-clause-locates c = c.of.ensures.locates
