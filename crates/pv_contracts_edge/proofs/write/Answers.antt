use Rattle.pv_contracts_edge.proofs.write.Goals as goal

pub returns-clause-ok : goal.returns-clause-ok
returns-clause-ok g c = c.write.ensures.ok

pub returns-clause-left : goal.returns-clause-left
returns-clause-left g c = c.write.ensures.left

pub returns-clause-failed : goal.returns-clause-failed
returns-clause-failed g c = c.write.ensures.failed

pub returns-clause-no_memory : goal.returns-clause-no_memory
returns-clause-no_memory g c = c.write.ensures.no_memory

pub returns-clause-no_memory_count : goal.returns-clause-no_memory_count
returns-clause-no_memory_count g c = c.write.ensures.no_memory_count

pub returns-clause-never_falls : goal.returns-clause-never_falls
returns-clause-never_falls g c = c.write.ensures.never_falls

pub returns-clause-counted : goal.returns-clause-counted
returns-clause-counted g c = c.write.ensures.counted

pub returns-clause-only_faults : goal.returns-clause-only_faults
returns-clause-only_faults g c = c.write.ensures.only_faults

pub returns-clause-other_name : goal.returns-clause-other_name
returns-clause-other_name g c = c.write.ensures.other_name

pub returns-clause-other_count : goal.returns-clause-other_count
returns-clause-other_count g c = c.write.ensures.other_count
