use Rattle.pv_contracts_rules.proofs.wrong_label.Goals as goal

pub returns : goal.returns
returns c = c.wrong_label.ensures
