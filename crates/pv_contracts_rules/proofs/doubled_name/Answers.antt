use Rattle.pv_contracts_rules.proofs.doubled_name.Goals as goal

pub returns : goal.returns
returns c = c.doubled_name.ensures
