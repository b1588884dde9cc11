use Rattle.pv_contracts_verdict.proofs.judge_certificate.Goals as goal

pub returns : goal.returns
returns c = c.judge_certificate.ensures
