use Rattle.pv_contracts_access.proofs.accesses.push_unset.Goals as goal

pub returns : goal.returns
returns c = c.push_unset.ensures
