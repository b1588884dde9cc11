use Rattle.pv_contracts_lower.proofs.terms.writes.Goals as goal

pub returns : goal.returns
returns c = c.writes.ensures
