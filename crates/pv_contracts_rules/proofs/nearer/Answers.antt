use Rattle.pv_contracts_rules.proofs.nearer.Goals as goal

pub returns : goal.returns
returns c = c.nearer.ensures
