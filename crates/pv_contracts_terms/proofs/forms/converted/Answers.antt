use Rattle.pv_contracts_terms.proofs.forms.converted.Goals as goal

pub returns : goal.returns
returns c = c.converted.ensures
