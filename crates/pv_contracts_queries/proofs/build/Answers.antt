use Rattle.pv_contracts_queries.proofs.build.Goals as goal

pub returns-clause-built : goal.returns-clause-built
returns-clause-built g c = c.build.ensures.built

pub returns-clause-within : goal.returns-clause-within
returns-clause-within g c = c.build.ensures.within

pub returns-clause-limit : goal.returns-clause-limit
returns-clause-limit g c = c.build.ensures.limit
