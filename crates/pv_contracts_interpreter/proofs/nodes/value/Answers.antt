use Rattle.pv_contracts_interpreter.proofs.nodes.value.Goals as goal

pub returns : goal.returns
returns c = c.value.ensures
