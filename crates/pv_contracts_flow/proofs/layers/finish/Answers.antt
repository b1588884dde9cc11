use Rattle.pv_contracts_flow.proofs.layers.finish.Goals as goal

pub returns-clause-parts : goal.returns-clause-parts
returns-clause-parts c = c.finish.ensures.parts

pub returns-clause-legal : goal.returns-clause-legal
returns-clause-legal c = c.finish.ensures.legal

pub returns-clause-body : goal.returns-clause-body
returns-clause-body c = c.finish.ensures.body
