use Rattle.pv_contracts_terms.proofs.places.element_placed.Goals as goal

pub returns-clause-value : goal.returns-clause-value
returns-clause-value c = c.element_placed.ensures.value

pub returns-clause-spot : goal.returns-clause-spot
returns-clause-spot c = c.element_placed.ensures.spot

pub returns-clause-room : goal.returns-clause-room
returns-clause-room c = c.element_placed.ensures.room
