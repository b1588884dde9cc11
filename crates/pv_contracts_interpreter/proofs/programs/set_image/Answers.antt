use Rattle.pv_contracts_interpreter.proofs.programs.set_image.Goals as goal

pub returns-clause-image : goal.returns-clause-image
returns-clause-image c = c.set_image.ensures.image

pub returns-clause-ready : goal.returns-clause-ready
returns-clause-ready c = c.set_image.ensures.ready

pub returns-clause-told : goal.returns-clause-told
returns-clause-told c = c.set_image.ensures.told

pub returns-clause-lent : goal.returns-clause-lent
returns-clause-lent c = c.set_image.ensures.lent

pub returns-clause-of : goal.returns-clause-of
returns-clause-of c = c.set_image.ensures.of
