use Rattle.pv_contracts_terms.proofs.nodes.push_binary.Goals as goal

pub returns : goal.returns
returns c = c.push_binary.ensures
