use Rattle.pv_contracts_watch.proofs.undo.Goals as goal

pub returns-clause-stored : goal.returns-clause-stored
returns-clause-stored c = c.undo.ensures.stored

pub returns-clause-variables : goal.returns-clause-variables
returns-clause-variables c = c.undo.ensures.variables

pub returns-clause-reasons : goal.returns-clause-reasons
returns-clause-reasons c = c.undo.ensures.reasons

pub returns-clause-starts : goal.returns-clause-starts
returns-clause-starts c = c.undo.ensures.starts

pub returns-clause-falses : goal.returns-clause-falses
returns-clause-falses c = c.undo.ensures.falses

pub returns-clause-ended : goal.returns-clause-ended
returns-clause-ended c = c.undo.ensures.ended

pub returns-clause-ready : goal.returns-clause-ready
returns-clause-ready c = c.undo.ensures.ready
