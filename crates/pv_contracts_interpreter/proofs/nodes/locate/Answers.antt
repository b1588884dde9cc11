use Rattle.pv_contracts_interpreter.proofs.nodes.locate.Goals as goal

pub returns-clause-value : goal.returns-clause-value
returns-clause-value c = c.locate.ensures.value

pub returns-clause-spot : goal.returns-clause-spot
returns-clause-spot c = c.locate.ensures.spot
