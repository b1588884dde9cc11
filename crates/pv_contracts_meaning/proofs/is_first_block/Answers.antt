use Rattle.pv_contracts_meaning.proofs.is_first_block.Goals as goal

pub returns : goal.returns
returns c = c.is_first_block.ensures
