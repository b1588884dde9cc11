use Rattle.pv_contracts_edge.proofs.write_memory.Goals as goal

pub returns-clause-ok : goal.returns-clause-ok
returns-clause-ok c = c.write.ensures.ok

pub returns-clause-failed : goal.returns-clause-failed
returns-clause-failed c = c.write.ensures.failed

pub returns-clause-after_ok : goal.returns-clause-after_ok
returns-clause-after_ok c = c.write.ensures.after_ok

pub returns-clause-after_failed : goal.returns-clause-after_failed
returns-clause-after_failed c = c.write.ensures.after_failed

pub returns-clause-after_no_memory : goal.returns-clause-after_no_memory
returns-clause-after_no_memory c = c.write.ensures.after_no_memory

pub returns-clause-no_memory : goal.returns-clause-no_memory
returns-clause-no_memory c = c.write.ensures.no_memory

pub returns-clause-puts : goal.returns-clause-puts
returns-clause-puts c = c.write.ensures.puts

pub returns-clause-never_falls : goal.returns-clause-never_falls
returns-clause-never_falls c = c.write.ensures.never_falls

pub returns-clause-counted : goal.returns-clause-counted
returns-clause-counted c = c.write.ensures.counted

pub returns-clause-never_fails : goal.returns-clause-never_fails
returns-clause-never_fails c = c.write.ensures.never_fails
