use Rattle.pv_contracts_bool.proofs.is_first_case.Goals as goal

pub returns : goal.returns
returns c = c.is_first_case.ensures
