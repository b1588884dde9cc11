use Rattle.pv_contracts_meaning.proofs.activation_part.Goals as goal

pub returns : goal.returns
returns c = c.activation_part.ensures
