use Rattle.pv_contracts_certificates.proofs.traces.write_trace.Goals as goal

pub returns : goal.returns
returns c = c.write_trace.ensures
