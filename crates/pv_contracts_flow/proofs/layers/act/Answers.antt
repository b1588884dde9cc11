use Rattle.pv_contracts_flow.proofs.layers.act.Goals as goal

pub returns-clause-terms : goal.returns-clause-terms
returns-clause-terms c = c.act.ensures.terms

pub returns-clause-stands : goal.returns-clause-stands
returns-clause-stands c = c.act.ensures.stands
