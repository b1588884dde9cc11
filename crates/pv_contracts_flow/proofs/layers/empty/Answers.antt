use Rattle.pv_contracts_flow.proofs.layers.empty.Goals as goal

pub returns-clause-stands : goal.returns-clause-stands
returns-clause-stands c = c.new.ensures.stands

pub returns-clause-terms : goal.returns-clause-terms
returns-clause-terms c = c.new.ensures.terms
