use Rattle.pv_contracts_watch.proofs.propagate.Goals as goal

pub returns-clause-goes : goal.returns-clause-goes
returns-clause-goes c = c.propagate.ensures.goes

pub returns-clause-ready : goal.returns-clause-ready
returns-clause-ready c = c.propagate.ensures.ready

pub returns-clause-ended : goal.returns-clause-ended
returns-clause-ended c = c.propagate.ensures.ended

pub returns-clause-quiet : goal.returns-clause-quiet
returns-clause-quiet c = c.propagate.ensures.quiet

pub returns-clause-conflict : goal.returns-clause-conflict
returns-clause-conflict c = c.propagate.ensures.conflict
