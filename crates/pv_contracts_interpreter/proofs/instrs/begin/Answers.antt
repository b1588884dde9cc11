use Rattle.pv_contracts_interpreter.proofs.instrs.begin.Goals as goal

pub returns-clause-same : goal.returns-clause-same
returns-clause-same c = c.begin.ensures.same

pub returns-clause-registers : goal.returns-clause-registers
returns-clause-registers c = c.begin.ensures.registers

pub returns-clause-within : goal.returns-clause-within
returns-clause-within c = c.begin.ensures.within

pub returns-clause-nested : goal.returns-clause-nested
returns-clause-nested c = c.begin.ensures.nested
