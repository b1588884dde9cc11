use Rattle.pv_contracts_rules.proofs.has_no_instructions.Goals as goal

pub returns : goal.returns
returns c = c.has_no_instructions.ensures
