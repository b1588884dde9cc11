use Rattle.pv_contracts_interpreter.proofs.programs.start.Goals as goal

pub returns-clause-image : goal.returns-clause-image
returns-clause-image c = c.start.ensures.image

pub returns-clause-ready : goal.returns-clause-ready
returns-clause-ready c = c.start.ensures.ready

pub returns-clause-told : goal.returns-clause-told
returns-clause-told c = c.start.ensures.told

pub returns-clause-lent : goal.returns-clause-lent
returns-clause-lent c = c.start.ensures.lent

pub returns-clause-of : goal.returns-clause-of
returns-clause-of c = c.start.ensures.of
