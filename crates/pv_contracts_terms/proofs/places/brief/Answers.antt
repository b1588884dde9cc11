use Rattle.pv_contracts_terms.proofs.places.brief.Goals as goal

pub returns : goal.returns
returns c = c.brief.ensures
