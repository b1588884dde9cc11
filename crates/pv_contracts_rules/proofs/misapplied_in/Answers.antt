use Rattle.pv_contracts_rules.proofs.misapplied_in.Goals as goal

pub returns : goal.returns
returns c = c.misapplied_in.ensures
