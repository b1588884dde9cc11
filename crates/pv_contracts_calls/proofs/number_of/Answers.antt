use Rattle.pv_contracts_calls.proofs.number_of.Goals as goal

pub returns-clause-number : goal.returns-clause-number
returns-clause-number c = c.number_of.ensures.number

pub returns-clause-fits : goal.returns-clause-fits
returns-clause-fits c = c.number_of.ensures.fits

pub returns-clause-large : goal.returns-clause-large
returns-clause-large c = c.number_of.ensures.large
