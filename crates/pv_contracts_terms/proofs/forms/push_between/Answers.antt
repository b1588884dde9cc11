use Rattle.pv_contracts_terms.proofs.forms.push_between.Goals as goal

pub returns : goal.returns
returns c = c.push_between.ensures
