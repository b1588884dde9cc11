use Rattle.pv_contracts_kind.proofs.decide.Goals as goal

pub returns-clause-decides : goal.returns-clause-decides
returns-clause-decides g c = c.decide.ensures.decides

pub returns-clause-proves : goal.returns-clause-proves
returns-clause-proves g c = c.decide.ensures.proves

pub returns-clause-finds : goal.returns-clause-finds
returns-clause-finds g c = c.decide.ensures.finds

pub returns-clause-refined : goal.returns-clause-refined
returns-clause-refined g c = c.decide.ensures.refined

pub returns-clause-gates : goal.returns-clause-gates
returns-clause-gates g c = c.decide.ensures.gates

pub returns-clause-fixed_kept : goal.returns-clause-fixed_kept
returns-clause-fixed_kept g c = c.decide.ensures.fixed_kept
