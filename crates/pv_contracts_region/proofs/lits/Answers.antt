use Rattle.pv_contracts_region.proofs.lits.Goals as goal

pub returns : goal.returns
returns c = c.lits.ensures
