use Rattle.pv_contracts_verdict.proofs.report_of.Goals as goal

pub returns : goal.returns
returns c = c.report_of.ensures
