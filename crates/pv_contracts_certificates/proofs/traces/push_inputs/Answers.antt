use Rattle.pv_contracts_certificates.proofs.traces.push_inputs.Goals as goal

pub returns-clause-ok : goal.returns-clause-ok
returns-clause-ok c = c.push.ensures.ok

pub returns-clause-err : goal.returns-clause-err
returns-clause-err c = c.push.ensures.err
