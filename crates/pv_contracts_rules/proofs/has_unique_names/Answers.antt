use Rattle.pv_contracts_rules.proofs.has_unique_names.Goals as goal

pub returns : goal.returns
returns c = c.has_unique_names.ensures
