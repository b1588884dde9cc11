use Rattle.pv_contracts_terms.proofs.places.numbers_of.Goals as goal

pub returns-clause-numbers : goal.returns-clause-numbers
returns-clause-numbers c = c.numbers_of.ensures.numbers

pub returns-clause-room : goal.returns-clause-room
returns-clause-room c = c.numbers_of.ensures.room
