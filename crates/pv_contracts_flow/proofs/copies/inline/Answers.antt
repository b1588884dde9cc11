use Rattle.pv_contracts_flow.proofs.copies.inline.Goals as goal

pub returns-clause-copies : goal.returns-clause-copies
returns-clause-copies c = c.inline.ensures.copies

pub returns-clause-machine : goal.returns-clause-machine
returns-clause-machine c = c.inline.ensures.machine

pub returns-clause-fits : goal.returns-clause-fits
returns-clause-fits c = c.inline.ensures.fits

pub returns-clause-large : goal.returns-clause-large
returns-clause-large c = c.inline.ensures.large
