use Rattle.pv_contracts_logs.proofs.solver.next.Goals as goal

pub returns : goal.returns
returns c = c.next.ensures
