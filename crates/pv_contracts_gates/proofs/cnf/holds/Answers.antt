use Rattle.pv_contracts_gates.proofs.cnf.holds.Goals as goal

pub returns : goal.returns
returns g c = c.holds.ensures
