use Rattle.pv_contracts_rules.proofs.check_expression.Goals as goal

pub returns : goal.returns
returns c = c.check_expression.ensures
