use Rattle.pv_contracts_interpreter.proofs.names.field.Goals as goal

pub returns-clause-value : goal.returns-clause-value
returns-clause-value c = c.field.ensures.value

pub returns-clause-spot : goal.returns-clause-spot
returns-clause-spot c = c.field.ensures.spot

pub returns-clause-room : goal.returns-clause-room
returns-clause-room c = c.field.ensures.room
