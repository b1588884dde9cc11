use Rattle.pv_contracts_pattern.proofs.judge.Goals as goal

pub returns : goal.returns
returns c = c.judge.ensures
