use Rattle.pv_contracts_claims.proofs.parts.read_trace_part.Goals as goal

pub returns-clause-ok : goal.returns-clause-ok
returns-clause-ok c = c.read_trace_part.ensures.ok

pub returns-clause-stuck : goal.returns-clause-stuck
returns-clause-stuck c = c.read_trace_part.ensures.stuck
