use Rattle.pv_contracts_interpreter.proofs.nodes.cell.Goals as goal

pub returns : goal.returns
returns c = c.cell.ensures
