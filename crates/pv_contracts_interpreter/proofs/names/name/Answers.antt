use Rattle.pv_contracts_interpreter.proofs.names.name.Goals as goal

pub returns-clause-value : goal.returns-clause-value
returns-clause-value c = c.name.ensures.value

pub returns-clause-spot : goal.returns-clause-spot
returns-clause-spot c = c.name.ensures.spot

pub returns-clause-room : goal.returns-clause-room
returns-clause-room c = c.name.ensures.room
