use Rattle.pv_contracts_region.proofs.watch.Goals as goal

pub returns : goal.returns
returns c = c.watch.ensures
