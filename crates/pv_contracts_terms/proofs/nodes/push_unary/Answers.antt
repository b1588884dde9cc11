use Rattle.pv_contracts_terms.proofs.nodes.push_unary.Goals as goal

pub returns : goal.returns
returns c = c.push_unary.ensures
