use Rattle.pv_contracts_bool.proofs.only_block.Goals as goal

pub returns-clause-some : goal.returns-clause-some
returns-clause-some c = c.only_block.ensures.some

pub returns-clause-none : goal.returns-clause-none
returns-clause-none c = c.only_block.ensures.none
