use Rattle.pv_contracts_lower.proofs.terms.storage.Goals as goal

pub returns : goal.returns
returns c = c.storage.ensures
