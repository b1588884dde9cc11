use Rattle.pv_contracts_meaning.proofs.find.Goals as goal

pub returns : goal.returns
returns c = c.find.ensures
