use Rattle.pv_contracts_claims.proofs.parts.push_head.Goals as goal

pub returns-clause-text : goal.returns-clause-text
returns-clause-text c = c.push_head.ensures.text

pub returns-clause-fits : goal.returns-clause-fits
returns-clause-fits c = c.push_head.ensures.fits
