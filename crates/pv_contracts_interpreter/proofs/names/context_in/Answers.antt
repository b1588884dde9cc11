use Rattle.pv_contracts_interpreter.proofs.names.context_in.Goals as goal

pub returns-clause-is : goal.returns-clause-is
returns-clause-is c = c.context_in.ensures.is

pub returns-clause-block : goal.returns-clause-block
returns-clause-block c = c.context_in.ensures.block
