use Rattle.pv_contracts_base.proofs.chain_ends.Goals as goal

pub returns : goal.returns
returns c = c.chain_ends.ensures
