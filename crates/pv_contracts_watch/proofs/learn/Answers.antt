use Rattle.pv_contracts_watch.proofs.learn.Goals as goal

pub returns-clause-id : goal.returns-clause-id
returns-clause-id c = c.learn.ensures.id

pub returns-clause-ok : goal.returns-clause-ok
returns-clause-ok c = c.learn.ensures.ok

pub returns-clause-extends : goal.returns-clause-extends
returns-clause-extends c = c.learn.ensures.extends

pub returns-clause-ready : goal.returns-clause-ready
returns-clause-ready c = c.learn.ensures.ready

pub returns-clause-err : goal.returns-clause-err
returns-clause-err c = c.learn.ensures.err

pub returns-clause-full : goal.returns-clause-full
returns-clause-full c = c.learn.ensures.full
