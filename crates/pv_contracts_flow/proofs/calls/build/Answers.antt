use Rattle.pv_contracts_flow.proofs.calls.build.Goals as goal

pub returns-clause-ok : goal.returns-clause-ok
returns-clause-ok c = c.build.ensures.ok

pub returns-clause-parts : goal.returns-clause-parts
returns-clause-parts c = c.build.ensures.parts

pub returns-clause-faultless : goal.returns-clause-faultless
returns-clause-faultless c = c.build.ensures.faultless

pub returns-clause-fault : goal.returns-clause-fault
returns-clause-fault c = c.build.ensures.fault
