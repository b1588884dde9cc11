use Rattle.pv_contracts_rules.proofs.nearest_in_code.Goals as goal

pub returns : goal.returns
returns c = c.nearest_in_code.ensures
