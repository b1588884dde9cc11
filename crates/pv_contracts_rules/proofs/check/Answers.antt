use Rattle.pv_contracts_rules.proofs.check.Goals as goal

pub returns : goal.returns
returns c = c.check.ensures
