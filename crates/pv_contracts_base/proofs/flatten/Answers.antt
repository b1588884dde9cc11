use Rattle.pv_contracts_base.proofs.flatten.Goals as goal

pub returns-clause-leaves : goal.returns-clause-leaves
returns-clause-leaves c = c.flatten.ensures.leaves

pub returns-clause-within : goal.returns-clause-within
returns-clause-within c = c.flatten.ensures.within

pub returns-clause-too_large : goal.returns-clause-too_large
returns-clause-too_large c = c.flatten.ensures.too_large
