use Rattle.pv_contracts_watch.proofs.decide.Goals as goal

pub returns-clause-stored : goal.returns-clause-stored
returns-clause-stored c = c.decide.ensures.stored

pub returns-clause-variables : goal.returns-clause-variables
returns-clause-variables c = c.decide.ensures.variables

pub returns-clause-falses : goal.returns-clause-falses
returns-clause-falses c = c.decide.ensures.falses

pub returns-clause-starts : goal.returns-clause-starts
returns-clause-starts c = c.decide.ensures.starts

pub returns-clause-ready : goal.returns-clause-ready
returns-clause-ready c = c.decide.ensures.ready
