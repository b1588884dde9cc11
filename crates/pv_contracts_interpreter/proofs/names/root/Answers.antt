use Rattle.pv_contracts_interpreter.proofs.names.root.Goals as goal

pub returns-clause-value : goal.returns-clause-value
returns-clause-value c = c.root.ensures.value

pub returns-clause-spot : goal.returns-clause-spot
returns-clause-spot c = c.root.ensures.spot

pub returns-clause-room : goal.returns-clause-room
returns-clause-room c = c.root.ensures.room
