use Rattle.pv_contracts_interpreter.proofs.names.target.Goals as goal

pub returns-clause-locates : goal.returns-clause-locates
returns-clause-locates c = c.target.ensures.locates

pub returns-clause-room : goal.returns-clause-room
returns-clause-room c = c.target.ensures.room
