use Rattle.pv_contracts_claims.proofs.parts.push_trace_part.Goals as goal

pub returns-clause-text : goal.returns-clause-text
returns-clause-text c = c.push_trace_part.ensures.text

pub returns-clause-fits : goal.returns-clause-fits
returns-clause-fits c = c.push_trace_part.ensures.fits
