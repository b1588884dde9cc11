use Rattle.pv_contracts_certificates.proofs.checks.check_certificate.Goals as goal

pub returns-clause-valid : goal.returns-clause-valid
returns-clause-valid c = c.check_certificate.ensures.valid

pub returns-clause-answer : goal.returns-clause-answer
returns-clause-answer c = c.check_certificate.ensures.answer

pub returns-clause-only : goal.returns-clause-only
returns-clause-only c = c.check_certificate.ensures.only
