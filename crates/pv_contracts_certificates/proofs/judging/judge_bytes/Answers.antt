use Rattle.pv_contracts_certificates.proofs.judging.judge_bytes.Goals as goal

pub returns-clause-answer : goal.returns-clause-answer
returns-clause-answer g c = c.judge_bytes.ensures.answer

pub returns-clause-only : goal.returns-clause-only
returns-clause-only g c = c.judge_bytes.ensures.only

pub returns-clause-kept : goal.returns-clause-kept
returns-clause-kept g c = c.judge_bytes.ensures.kept
