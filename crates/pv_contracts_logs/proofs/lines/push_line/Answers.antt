use Rattle.pv_contracts_logs.proofs.lines.push_line.Goals as goal

pub returns-clause-ok : goal.returns-clause-ok
returns-clause-ok c = c.push.ensures.ok

pub returns-clause-err : goal.returns-clause-err
returns-clause-err c = c.push.ensures.err
