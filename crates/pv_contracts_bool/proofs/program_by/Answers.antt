use Rattle.pv_contracts_bool.proofs.program_by.Goals as goal

pub returns : goal.returns
returns c = c.program_by.ensures
