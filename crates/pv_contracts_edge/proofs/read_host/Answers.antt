use Rattle.pv_contracts_edge.proofs.read_host.Goals as goal

pub returns-clause-after_ok : goal.returns-clause-after_ok
returns-clause-after_ok g c = c.read.ensures.after_ok

pub returns-clause-after_failed : goal.returns-clause-after_failed
returns-clause-after_failed g c = c.read.ensures.after_failed

pub returns-clause-after_no_memory : goal.returns-clause-after_no_memory
returns-clause-after_no_memory g c = c.read.ensures.after_no_memory

pub returns-clause-never_falls : goal.returns-clause-never_falls
returns-clause-never_falls g c = c.read.ensures.never_falls

pub returns-clause-counted : goal.returns-clause-counted
returns-clause-counted g c = c.read.ensures.counted

pub returns-clause-told : goal.returns-clause-told
returns-clause-told g c = c.read.ensures.told
