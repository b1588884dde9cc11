use Rattle.pv_contracts_base.proofs.on_cycles.Goals as goal

pub returns : goal.returns
returns c = c.on_cycles.ensures
