use Rattle.pv_contracts_kind.proofs.evidence.decide_case.Goals as goal

pub returns-clause-evidence : goal.returns-clause-evidence
returns-clause-evidence g c = c.decide_case.ensures.evidence

pub returns-clause-fits : goal.returns-clause-fits
returns-clause-fits g c = c.decide_case.ensures.fits

pub returns-clause-gates : goal.returns-clause-gates
returns-clause-gates g c = c.decide_case.ensures.gates

pub returns-clause-kept : goal.returns-clause-kept
returns-clause-kept g c = c.decide_case.ensures.kept
