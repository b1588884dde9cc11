use Rattle.pv_contracts_interpreter.proofs.names.context_at.Goals as goal

pub returns-clause-is : goal.returns-clause-is
returns-clause-is c = c.context_at.ensures.is

pub returns-clause-block : goal.returns-clause-block
returns-clause-block c = c.context_at.ensures.block
