use Rattle.pv_contracts_interpreter.proofs.instrs.step.Goals as goal

pub returns-clause-same : goal.returns-clause-same
returns-clause-same c = c.step.ensures.same

pub returns-clause-goes : goal.returns-clause-goes
returns-clause-goes c = c.step.ensures.goes

pub returns-clause-depth : goal.returns-clause-depth
returns-clause-depth c = c.step.ensures.depth
