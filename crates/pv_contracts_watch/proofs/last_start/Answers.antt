use Rattle.pv_contracts_watch.proofs.last_start.Goals as goal

pub returns-clause-last : goal.returns-clause-last
returns-clause-last c = c.last_start.ensures.last

pub returns-clause-rise : goal.returns-clause-rise
returns-clause-rise c = c.last_start.ensures.rise

pub returns-clause-bound : goal.returns-clause-bound
returns-clause-bound c = c.last_start.ensures.bound

pub returns-clause-small : goal.returns-clause-small
returns-clause-small c = c.last_start.ensures.small

pub returns-clause-alone : goal.returns-clause-alone
returns-clause-alone c = c.last_start.ensures.alone
