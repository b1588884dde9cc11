use Rattle.pv_contracts_readers.proofs.sharing.find_too_deep.Goals as goal

pub returns : goal.returns
returns c = c.find_too_deep.ensures
