use Rattle.pv_contracts_verdict.proofs.decide.Goals as goal

pub returns-clause-found : goal.returns-clause-found
returns-clause-found c = c.decide.ensures.found

pub returns-clause-gates : goal.returns-clause-gates
returns-clause-gates c = c.decide.ensures.gates
