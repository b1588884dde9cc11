use Rattle.pv_contracts_watch.proofs.make.Goals as goal

pub returns-clause-stored : goal.returns-clause-stored
returns-clause-stored c = c.make.ensures.stored

pub returns-clause-falses : goal.returns-clause-falses
returns-clause-falses c = c.make.ensures.falses

pub returns-clause-starts : goal.returns-clause-starts
returns-clause-starts c = c.make.ensures.starts

pub returns-clause-full : goal.returns-clause-full
returns-clause-full c = c.make.ensures.full
