use Rattle.pv_contracts_interpreter.proofs.names.expression.Goals as goal

pub returns-clause-evaluates : goal.returns-clause-evaluates
returns-clause-evaluates c = c.expression.ensures.evaluates

pub returns-clause-room : goal.returns-clause-room
returns-clause-room c = c.expression.ensures.room
