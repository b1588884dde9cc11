use Rattle.pv_contracts_edge.proofs.write_host.Goals as goal

pub returns-clause-after_ok : goal.returns-clause-after_ok
returns-clause-after_ok g c = c.write.ensures.after_ok

pub returns-clause-after_failed : goal.returns-clause-after_failed
returns-clause-after_failed g c = c.write.ensures.after_failed

pub returns-clause-no_memory : goal.returns-clause-no_memory
returns-clause-no_memory g c = c.write.ensures.no_memory

pub returns-clause-never_falls : goal.returns-clause-never_falls
returns-clause-never_falls g c = c.write.ensures.never_falls

pub returns-clause-counted : goal.returns-clause-counted
returns-clause-counted g c = c.write.ensures.counted
