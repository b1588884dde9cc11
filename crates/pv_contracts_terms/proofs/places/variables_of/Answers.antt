use Rattle.pv_contracts_terms.proofs.places.variables_of.Goals as goal

pub returns-clause-variables : goal.returns-clause-variables
returns-clause-variables c = c.variables_of.ensures.variables

pub returns-clause-room : goal.returns-clause-room
returns-clause-room c = c.variables_of.ensures.room
