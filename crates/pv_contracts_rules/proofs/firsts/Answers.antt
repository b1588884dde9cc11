use Rattle.pv_contracts_rules.proofs.firsts.Goals as goal

pub returns : goal.returns
returns c = c.new.ensures
