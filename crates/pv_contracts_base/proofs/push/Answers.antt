use Rattle.pv_contracts_base.proofs.push.Goals as goal

pub returns-clause-pushed : goal.returns-clause-pushed
returns-clause-pushed c = c.push.ensures.pushed

pub returns-clause-unchanged : goal.returns-clause-unchanged
returns-clause-unchanged c = c.push.ensures.unchanged
