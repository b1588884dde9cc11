use Rattle.pv_contracts_certificates.proofs.judging.judge.Goals as goal

pub returns-clause-judges : goal.returns-clause-judges
returns-clause-judges g c = c.judge.ensures.judges

pub returns-clause-kept : goal.returns-clause-kept
returns-clause-kept g c = c.judge.ensures.kept
