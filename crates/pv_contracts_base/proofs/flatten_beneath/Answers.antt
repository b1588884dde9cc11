use Rattle.pv_contracts_base.proofs.flatten_beneath.Goals as goal

pub returns-clause-leaves : goal.returns-clause-leaves
returns-clause-leaves c = c.flatten_beneath.ensures.leaves

pub returns-clause-within : goal.returns-clause-within
returns-clause-within c = c.flatten_beneath.ensures.within

pub returns-clause-too_large : goal.returns-clause-too_large
returns-clause-too_large c = c.flatten_beneath.ensures.too_large
