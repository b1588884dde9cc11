use Rattle.pv_contracts_queries.proofs.push.Goals as goal

pub returns-clause-pushes : goal.returns-clause-pushes
returns-clause-pushes g c = c.push.ensures.pushes

pub returns-clause-variables_kept : goal.returns-clause-variables_kept
returns-clause-variables_kept g c = c.push.ensures.variables_kept

pub returns-clause-takes_kept : goal.returns-clause-takes_kept
returns-clause-takes_kept g c = c.push.ensures.takes_kept

pub returns-clause-overflow_kept : goal.returns-clause-overflow_kept
returns-clause-overflow_kept g c = c.push.ensures.overflow_kept
