use Rattle.pv_contracts_base.proofs.leads.Goals as goal

pub returns : goal.returns
returns c = c.leads.ensures
