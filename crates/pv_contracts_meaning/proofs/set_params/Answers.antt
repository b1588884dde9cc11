use Rattle.pv_contracts_meaning.proofs.set_params.Goals as goal

pub returns : goal.returns
returns c = c.set_params.ensures
