use Rattle.pv_contracts_interpreter.proofs.programs.run.Goals as goal

pub returns : goal.returns
returns c = c.run.ensures
