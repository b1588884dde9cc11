use Rattle.pv_contracts_interpreter.proofs.nodes.expression_of.Goals as goal

pub returns-clause-count : goal.returns-clause-count
returns-clause-count c = c.of.ensures.count

pub returns-clause-evaluates : goal.returns-clause-evaluates
returns-clause-evaluates c = c.of.ensures.evaluates
