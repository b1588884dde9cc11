use Rattle.pv_contracts_meaning.proofs.set_params_of.Goals as goal

pub returns-clause-cells : goal.returns-clause-cells
returns-clause-cells c = c.set_params.ensures.cells

pub returns-clause-bytes : goal.returns-clause-bytes
returns-clause-bytes c = c.set_params.ensures.bytes
