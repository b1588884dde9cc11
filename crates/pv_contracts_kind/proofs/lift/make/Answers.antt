use Rattle.pv_contracts_kind.proofs.lift.make.Goals as goal

pub returns-clause-circuits : goal.returns-clause-circuits
returns-clause-circuits g c = c.make.ensures.circuits

pub returns-clause-replay : goal.returns-clause-replay
returns-clause-replay g c = c.make.ensures.replay

pub returns-clause-pattern : goal.returns-clause-pattern
returns-clause-pattern g c = c.make.ensures.pattern

pub returns-clause-facts : goal.returns-clause-facts
returns-clause-facts g c = c.make.ensures.facts
