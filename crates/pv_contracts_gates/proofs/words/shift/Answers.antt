use Rattle.pv_contracts_gates.proofs.words.shift.Goals as goal

pub returns-clause-built : goal.returns-clause-built
returns-clause-built c = c.shift.ensures.built

pub returns-clause-names : goal.returns-clause-names
returns-clause-names c = c.shift.ensures.names

pub returns-clause-width : goal.returns-clause-width
returns-clause-width c = c.shift.ensures.width

pub returns-clause-longer : goal.returns-clause-longer
returns-clause-longer c = c.shift.ensures.longer
