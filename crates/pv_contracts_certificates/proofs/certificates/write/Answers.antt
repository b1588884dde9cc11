use Rattle.pv_contracts_certificates.proofs.certificates.write.Goals as goal

pub returns-clause-text : goal.returns-clause-text
returns-clause-text c = c.write.ensures.text

pub returns-clause-is_text : goal.returns-clause-is_text
returns-clause-is_text c = c.write.ensures.is_text
