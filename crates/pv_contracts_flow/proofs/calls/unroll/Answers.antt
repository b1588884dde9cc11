use Rattle.pv_contracts_flow.proofs.calls.unroll.Goals as goal

pub returns-clause-copies : goal.returns-clause-copies
returns-clause-copies c = c.unroll.ensures.copies

pub returns-clause-bare : goal.returns-clause-bare
returns-clause-bare c = c.unroll.ensures.bare

pub returns-clause-same : goal.returns-clause-same
returns-clause-same c = c.unroll.ensures.same

pub returns-clause-fits : goal.returns-clause-fits
returns-clause-fits c = c.unroll.ensures.fits

pub returns-clause-large : goal.returns-clause-large
returns-clause-large c = c.unroll.ensures.large

pub returns-clause-tables : goal.returns-clause-tables
returns-clause-tables c = c.unroll.ensures.tables
