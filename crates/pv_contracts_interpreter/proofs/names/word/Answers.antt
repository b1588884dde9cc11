use Rattle.pv_contracts_interpreter.proofs.names.word.Goals as goal

pub returns-clause-value : goal.returns-clause-value
returns-clause-value c = c.word.ensures.value

pub returns-clause-spot : goal.returns-clause-spot
returns-clause-spot c = c.word.ensures.spot

pub returns-clause-room : goal.returns-clause-room
returns-clause-room c = c.word.ensures.room
