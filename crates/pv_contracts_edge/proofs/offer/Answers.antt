use Rattle.pv_contracts_edge.proofs.offer.Goals as goal

pub returns-clause-within : goal.returns-clause-within
returns-clause-within g c = c.write.ensures.within

pub returns-clause-ok : goal.returns-clause-ok
returns-clause-ok g c = c.write.ensures.ok

pub returns-clause-err : goal.returns-clause-err
returns-clause-err g c = c.write.ensures.err

pub returns-clause-stalled : goal.returns-clause-stalled
returns-clause-stalled g c = c.write.ensures.stalled

pub returns-clause-failed : goal.returns-clause-failed
returns-clause-failed g c = c.write.ensures.failed

pub returns-clause-no_memory : goal.returns-clause-no_memory
returns-clause-no_memory g c = c.write.ensures.no_memory

pub returns-clause-never_falls : goal.returns-clause-never_falls
returns-clause-never_falls g c = c.write.ensures.never_falls

pub returns-clause-counted : goal.returns-clause-counted
returns-clause-counted g c = c.write.ensures.counted

pub returns-clause-only_faults : goal.returns-clause-only_faults
returns-clause-only_faults g c = c.write.ensures.only_faults

pub returns-clause-called : goal.returns-clause-called
returns-clause-called g c = c.write.ensures.called
