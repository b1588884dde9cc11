use Rattle.pv_contracts_case.proofs.patterns.said.Goals as goal

pub returns : goal.returns
returns c = c.said.ensures
