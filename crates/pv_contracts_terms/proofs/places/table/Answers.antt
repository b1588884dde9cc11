use Rattle.pv_contracts_terms.proofs.places.table.Goals as goal

pub returns : goal.returns
returns c = c.table.ensures
