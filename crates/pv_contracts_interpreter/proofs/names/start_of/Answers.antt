use Rattle.pv_contracts_interpreter.proofs.names.start_of.Goals as goal

pub returns-clause-value : goal.returns-clause-value
returns-clause-value c = c.start_of.ensures.value

pub returns-clause-fits : goal.returns-clause-fits
returns-clause-fits c = c.start_of.ensures.fits
