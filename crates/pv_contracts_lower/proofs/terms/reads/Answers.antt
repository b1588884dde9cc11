use Rattle.pv_contracts_lower.proofs.terms.reads.Goals as goal

pub returns : goal.returns
returns c = c.reads.ensures
