use Rattle.pv_contracts_interpreter.proofs.instrs.behind_call.Goals as goal

pub returns-clause-same : goal.returns-clause-same
returns-clause-same c = c.behind_call.ensures.same

pub returns-clause-registers : goal.returns-clause-registers
returns-clause-registers c = c.behind_call.ensures.registers

pub returns-clause-within : goal.returns-clause-within
returns-clause-within c = c.behind_call.ensures.within

pub returns-clause-most : goal.returns-clause-most
returns-clause-most c = c.behind_call.ensures.most

pub returns-clause-nested : goal.returns-clause-nested
returns-clause-nested c = c.behind_call.ensures.nested
