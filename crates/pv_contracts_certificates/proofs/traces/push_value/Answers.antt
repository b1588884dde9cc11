use Rattle.pv_contracts_certificates.proofs.traces.push_value.Goals as goal

pub returns-clause-err : goal.returns-clause-err
returns-clause-err c = c.push.ensures.err
