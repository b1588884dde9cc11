use Rattle.pv_contracts_certificates.proofs.traces.read_trace.Goals as goal

pub returns-clause-found : goal.returns-clause-found
returns-clause-found c = c.read_trace.ensures.found

pub returns-clause-complete : goal.returns-clause-complete
returns-clause-complete c = c.read_trace.ensures.complete

pub returns-clause-stuck : goal.returns-clause-stuck
returns-clause-stuck c = c.read_trace.ensures.stuck

pub returns-clause-refused : goal.returns-clause-refused
returns-clause-refused c = c.read_trace.ensures.refused
