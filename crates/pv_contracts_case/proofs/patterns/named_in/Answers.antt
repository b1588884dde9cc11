use Rattle.pv_contracts_case.proofs.patterns.named_in.Goals as goal

pub returns : goal.returns
returns c = c.named_in.ensures
