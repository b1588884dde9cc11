use Rattle.pv_contracts_gates.proofs.cnf.push.Goals as goal

pub returns-clause-ok : goal.returns-clause-ok
returns-clause-ok g c = c.push.ensures.ok

pub returns-clause-valid : goal.returns-clause-valid
returns-clause-valid g c = c.push.ensures.valid

pub returns-clause-err : goal.returns-clause-err
returns-clause-err g c = c.push.ensures.err

pub returns-clause-out_of_range : goal.returns-clause-out_of_range
returns-clause-out_of_range g c = c.push.ensures.out_of_range

pub returns-clause-doubled : goal.returns-clause-doubled
returns-clause-doubled g c = c.push.ensures.doubled

pub returns-clause-empty : goal.returns-clause-empty
returns-clause-empty g c = c.push.ensures.empty

pub returns-clause-full : goal.returns-clause-full
returns-clause-full g c = c.push.ensures.full

pub returns-clause-fits : goal.returns-clause-fits
returns-clause-fits g c = c.push.ensures.fits

pub returns-clause-variables_kept : goal.returns-clause-variables_kept
returns-clause-variables_kept g c = c.push.ensures.variables_kept

pub returns-clause-takes_kept : goal.returns-clause-takes_kept
returns-clause-takes_kept g c = c.push.ensures.takes_kept

pub returns-clause-overflow_kept : goal.returns-clause-overflow_kept
returns-clause-overflow_kept g c = c.push.ensures.overflow_kept
