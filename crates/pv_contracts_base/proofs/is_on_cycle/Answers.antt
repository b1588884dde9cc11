use Rattle.pv_contracts_base.proofs.is_on_cycle.Goals as goal

pub returns : goal.returns
returns c = c.is_on_cycle.ensures
