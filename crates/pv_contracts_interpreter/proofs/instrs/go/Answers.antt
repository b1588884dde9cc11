use Rattle.pv_contracts_interpreter.proofs.instrs.go.Goals as goal

pub returns-clause-same : goal.returns-clause-same
returns-clause-same c = c.go.ensures.same

pub returns-clause-within : goal.returns-clause-within
returns-clause-within c = c.go.ensures.within

pub returns-clause-most : goal.returns-clause-most
returns-clause-most c = c.go.ensures.most
