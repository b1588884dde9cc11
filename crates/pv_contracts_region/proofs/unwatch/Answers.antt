use Rattle.pv_contracts_region.proofs.unwatch.Goals as goal

pub returns-clause-out : goal.returns-clause-out
returns-clause-out c = c.unwatch.ensures.out

pub returns-clause-free : goal.returns-clause-free
returns-clause-free c = c.unwatch.ensures.free
