use Rattle.pv_contracts_bool.proofs.said_at.Goals as goal

pub returns : goal.returns
returns c = c.said_at.ensures
