use Rattle.pv_contracts_lower.proofs.terms.operand.Goals as goal

pub returns : goal.returns
returns c = c.operand.ensures
