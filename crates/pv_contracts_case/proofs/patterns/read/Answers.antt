use Rattle.pv_contracts_case.proofs.patterns.read.Goals as goal

pub returns : goal.returns
returns c = c.read.ensures
