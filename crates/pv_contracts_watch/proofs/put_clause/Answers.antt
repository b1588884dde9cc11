use Rattle.pv_contracts_watch.proofs.put_clause.Goals as goal

pub returns-clause-id : goal.returns-clause-id
returns-clause-id c = c.put_clause.ensures.id

pub returns-clause-ok : goal.returns-clause-ok
returns-clause-ok c = c.put_clause.ensures.ok

pub returns-clause-path : goal.returns-clause-path
returns-clause-path c = c.put_clause.ensures.path

pub returns-clause-err : goal.returns-clause-err
returns-clause-err c = c.put_clause.ensures.err

pub returns-clause-full : goal.returns-clause-full
returns-clause-full c = c.put_clause.ensures.full
