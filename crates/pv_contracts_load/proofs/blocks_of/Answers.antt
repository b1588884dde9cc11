use Rattle.pv_contracts_load.proofs.blocks_of.Goals as goal

pub returns-clause-read : goal.returns-clause-read
returns-clause-read c = c.blocks_of.ensures.read

pub returns-clause-stopped : goal.returns-clause-stopped
returns-clause-stopped c = c.blocks_of.ensures.stopped
