use Rattle.pv_contracts_access.proofs.accesses.push_read.Goals as goal

pub returns : goal.returns
returns c = c.push_read.ensures
