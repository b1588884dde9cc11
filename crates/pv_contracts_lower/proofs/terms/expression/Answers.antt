use Rattle.pv_contracts_lower.proofs.terms.expression.Goals as goal

pub returns : goal.returns
returns c = c.expression.ensures
