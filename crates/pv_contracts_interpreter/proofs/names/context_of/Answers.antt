use Rattle.pv_contracts_interpreter.proofs.names.context_of.Goals as goal

pub returns-clause-context : goal.returns-clause-context
returns-clause-context c = c.context_of.ensures.context

pub returns-clause-scope : goal.returns-clause-scope
returns-clause-scope c = c.context_of.ensures.scope

pub returns-clause-too_large : goal.returns-clause-too_large
returns-clause-too_large c = c.context_of.ensures.too_large
