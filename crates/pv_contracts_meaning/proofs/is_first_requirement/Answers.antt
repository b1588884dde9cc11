use Rattle.pv_contracts_meaning.proofs.is_first_requirement.Goals as goal

pub returns : goal.returns
returns c = c.is_first_requirement.ensures
