use Rattle.pv_contracts_interpreter.proofs.programs.make.Goals as goal

pub returns-clause-of : goal.returns-clause-of
returns-clause-of c = c.make.ensures.of

pub returns-clause-lent : goal.returns-clause-lent
returns-clause-lent c = c.make.ensures.lent

pub returns-clause-ready : goal.returns-clause-ready
returns-clause-ready c = c.make.ensures.ready

pub returns-clause-room : goal.returns-clause-room
returns-clause-room c = c.make.ensures.room
