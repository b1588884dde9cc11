use Rattle.pv_contracts_gates.proofs.words.divide.Goals as goal

pub returns-clause-built : goal.returns-clause-built
returns-clause-built c = c.divide.ensures.built

pub returns-clause-quotient : goal.returns-clause-quotient
returns-clause-quotient c = c.divide.ensures.quotient

pub returns-clause-remainder : goal.returns-clause-remainder
returns-clause-remainder c = c.divide.ensures.remainder

pub returns-clause-quotient_width : goal.returns-clause-quotient_width
returns-clause-quotient_width c = c.divide.ensures.quotient_width

pub returns-clause-remainder_width : goal.returns-clause-remainder_width
returns-clause-remainder_width c = c.divide.ensures.remainder_width

pub returns-clause-longer : goal.returns-clause-longer
returns-clause-longer c = c.divide.ensures.longer
