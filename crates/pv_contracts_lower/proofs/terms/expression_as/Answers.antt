use Rattle.pv_contracts_lower.proofs.terms.expression_as.Goals as goal

pub returns : goal.returns
returns c = c.expression_as.ensures
