use Rattle.pv_contracts_flow.proofs.layers.open_loop.Goals as goal

pub returns-clause-terms : goal.returns-clause-terms
returns-clause-terms c = c.open.ensures.terms

pub returns-clause-stands : goal.returns-clause-stands
returns-clause-stands c = c.open.ensures.stands
