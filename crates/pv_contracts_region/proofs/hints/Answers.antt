use Rattle.pv_contracts_region.proofs.hints.Goals as goal

pub returns : goal.returns
returns c = c.hints.ensures
