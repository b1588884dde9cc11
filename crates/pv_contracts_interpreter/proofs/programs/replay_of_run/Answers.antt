use Rattle.pv_contracts_interpreter.proofs.programs.replay_of_run.Goals as goal

pub returns-clause-of : goal.returns-clause-of
returns-clause-of c = c.replay_of.ensures.of

pub returns-clause-lent : goal.returns-clause-lent
returns-clause-lent c = c.replay_of.ensures.lent

pub returns-clause-ready : goal.returns-clause-ready
returns-clause-ready c = c.replay_of.ensures.ready
