use Rattle.pv_contracts_bool.proofs.first_pattern.Goals as goal

pub returns-clause-is_first : goal.returns-clause-is_first
returns-clause-is_first c = c.first_pattern.ensures.is_first

pub returns-clause-program : goal.returns-clause-program
returns-clause-program c = c.first_pattern.ensures.program
