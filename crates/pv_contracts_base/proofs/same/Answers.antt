use Rattle.pv_contracts_base.proofs.same.Goals as goal

pub returns : goal.returns
returns c = c.same.ensures
