use Rattle.pv_contracts_interpreter.proofs.names.firsts_of.Goals as goal

pub returns : goal.returns
returns c = c.of.ensures
