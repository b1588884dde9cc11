use Rattle.pv_contracts_edge.proofs.write_all.Goals as goal

pub returns-clause-ok : goal.returns-clause-ok
returns-clause-ok g c = c.write_all.ensures.ok

pub returns-clause-err : goal.returns-clause-err
returns-clause-err g c = c.write_all.ensures.err

pub returns-clause-idle : goal.returns-clause-idle
returns-clause-idle g c = c.write_all.ensures.idle

pub returns-clause-failed : goal.returns-clause-failed
returns-clause-failed g c = c.write_all.ensures.failed

pub returns-clause-never_falls : goal.returns-clause-never_falls
returns-clause-never_falls g c = c.write_all.ensures.never_falls

pub returns-clause-no_memory : goal.returns-clause-no_memory
returns-clause-no_memory g c = c.write_all.ensures.no_memory

pub returns-clause-only_faults : goal.returns-clause-only_faults
returns-clause-only_faults g c = c.write_all.ensures.only_faults

pub returns-clause-offered : goal.returns-clause-offered
returns-clause-offered g c = c.write_all.ensures.offered

pub returns-clause-stops : goal.returns-clause-stops
returns-clause-stops g c = c.write_all.ensures.stops
