use Rattle.pv_contracts_readers.proofs.sharing.with.Goals as goal

pub returns : goal.returns
returns g c = c.with.ensures
