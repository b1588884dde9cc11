use Rattle.pv_contracts_terms.proofs.nodes.push_select.Goals as goal

pub returns : goal.returns
returns c = c.push_select.ensures
