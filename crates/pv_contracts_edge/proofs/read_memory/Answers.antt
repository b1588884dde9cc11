use Rattle.pv_contracts_edge.proofs.read_memory.Goals as goal

pub returns-clause-ok : goal.returns-clause-ok
returns-clause-ok c = c.read.ensures.ok

pub returns-clause-failed : goal.returns-clause-failed
returns-clause-failed c = c.read.ensures.failed

pub returns-clause-after_ok : goal.returns-clause-after_ok
returns-clause-after_ok c = c.read.ensures.after_ok

pub returns-clause-after_failed : goal.returns-clause-after_failed
returns-clause-after_failed c = c.read.ensures.after_failed

pub returns-clause-after_no_memory : goal.returns-clause-after_no_memory
returns-clause-after_no_memory c = c.read.ensures.after_no_memory

pub returns-clause-never_falls : goal.returns-clause-never_falls
returns-clause-never_falls c = c.read.ensures.never_falls

pub returns-clause-counted : goal.returns-clause-counted
returns-clause-counted c = c.read.ensures.counted

pub returns-clause-only_missing : goal.returns-clause-only_missing
returns-clause-only_missing c = c.read.ensures.only_missing

pub returns-clause-told : goal.returns-clause-told
returns-clause-told c = c.read.ensures.told
