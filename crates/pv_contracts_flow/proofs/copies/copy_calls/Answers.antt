use Rattle.pv_contracts_flow.proofs.copies.copy_calls.Goals as goal

pub returns-clause-copies : goal.returns-clause-copies
returns-clause-copies c = c.copy_calls.ensures.copies

pub returns-clause-sound : goal.returns-clause-sound
returns-clause-sound c = c.copy_calls.ensures.sound

pub returns-clause-fits : goal.returns-clause-fits
returns-clause-fits c = c.copy_calls.ensures.fits

pub returns-clause-large : goal.returns-clause-large
returns-clause-large c = c.copy_calls.ensures.large
