use Rattle.pv_contracts_interpreter.proofs.names.with_firsts.Goals as goal

pub returns-clause-is : goal.returns-clause-is
returns-clause-is c = c.with_firsts.ensures.is

pub returns-clause-scope : goal.returns-clause-scope
returns-clause-scope c = c.with_firsts.ensures.scope

pub returns-clause-block : goal.returns-clause-block
returns-clause-block c = c.with_firsts.ensures.block
