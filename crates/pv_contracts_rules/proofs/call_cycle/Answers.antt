use Rattle.pv_contracts_rules.proofs.call_cycle.Goals as goal

pub returns : goal.returns
returns c = c.call_cycle.ensures
