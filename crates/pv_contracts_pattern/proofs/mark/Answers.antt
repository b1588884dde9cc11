use Rattle.pv_contracts_pattern.proofs.mark.Goals as goal

pub returns : goal.returns
returns c = c.mark.ensures
