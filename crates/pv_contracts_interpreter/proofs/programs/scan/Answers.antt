use Rattle.pv_contracts_interpreter.proofs.programs.scan.Goals as goal

pub returns-clause-scan : goal.returns-clause-scan
returns-clause-scan c = c.scan.ensures.scan

pub returns-clause-range : goal.returns-clause-range
returns-clause-range c = c.scan.ensures.range

pub returns-clause-stopped : goal.returns-clause-stopped
returns-clause-stopped c = c.scan.ensures.stopped

pub returns-clause-ready : goal.returns-clause-ready
returns-clause-ready c = c.scan.ensures.ready

pub returns-clause-lent : goal.returns-clause-lent
returns-clause-lent c = c.scan.ensures.lent

pub returns-clause-of : goal.returns-clause-of
returns-clause-of c = c.scan.ensures.of
