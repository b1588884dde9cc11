use Rattle.pv_contracts_pattern.proofs.reads.Goals as goal

pub returns : goal.returns
returns c = c.reads.ensures
