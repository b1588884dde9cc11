use Rattle.pv_contracts_flow.proofs.calls.copy_loops.Goals as goal

pub returns-clause-copies : goal.returns-clause-copies
returns-clause-copies c = c.copy_loops.ensures.copies

pub returns-clause-forward : goal.returns-clause-forward
returns-clause-forward c = c.copy_loops.ensures.forward

pub returns-clause-fits : goal.returns-clause-fits
returns-clause-fits c = c.copy_loops.ensures.fits

pub returns-clause-large : goal.returns-clause-large
returns-clause-large c = c.copy_loops.ensures.large

pub returns-clause-tables : goal.returns-clause-tables
returns-clause-tables c = c.copy_loops.ensures.tables
