use Rattle.pv_contracts_rules.proofs.push.Goals as goal

pub returns : goal.returns
returns c = c.push.ensures
