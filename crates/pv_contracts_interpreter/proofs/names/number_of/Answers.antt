use Rattle.pv_contracts_interpreter.proofs.names.number_of.Goals as goal

pub returns-clause-value : goal.returns-clause-value
returns-clause-value c = c.number_of.ensures.value

pub returns-clause-fits : goal.returns-clause-fits
returns-clause-fits c = c.number_of.ensures.fits

pub returns-clause-too_large : goal.returns-clause-too_large
returns-clause-too_large c = c.number_of.ensures.too_large
