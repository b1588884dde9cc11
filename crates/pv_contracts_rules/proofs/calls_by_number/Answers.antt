use Rattle.pv_contracts_rules.proofs.calls_by_number.Goals as goal

pub returns : goal.returns
returns c = c.calls_by_number.ensures
