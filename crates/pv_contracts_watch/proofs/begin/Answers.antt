use Rattle.pv_contracts_watch.proofs.begin.Goals as goal

pub returns-clause-goes : goal.returns-clause-goes
returns-clause-goes c = c.begin.ensures.goes

pub returns-clause-ready : goal.returns-clause-ready
returns-clause-ready c = c.begin.ensures.ready

pub returns-clause-conflict : goal.returns-clause-conflict
returns-clause-conflict c = c.begin.ensures.conflict
