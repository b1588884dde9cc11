use Rattle.pv_contracts_edge.proofs.read.Goals as goal

pub returns-clause-unchanged : goal.returns-clause-unchanged
returns-clause-unchanged g c = c.read.ensures.unchanged

pub returns-clause-held : goal.returns-clause-held
returns-clause-held g c = c.read.ensures.held

pub returns-clause-missing : goal.returns-clause-missing
returns-clause-missing g c = c.read.ensures.missing

pub returns-clause-failed : goal.returns-clause-failed
returns-clause-failed g c = c.read.ensures.failed

pub returns-clause-no_memory : goal.returns-clause-no_memory
returns-clause-no_memory g c = c.read.ensures.no_memory

pub returns-clause-never_falls : goal.returns-clause-never_falls
returns-clause-never_falls g c = c.read.ensures.never_falls

pub returns-clause-counted : goal.returns-clause-counted
returns-clause-counted g c = c.read.ensures.counted

pub returns-clause-only_faults : goal.returns-clause-only_faults
returns-clause-only_faults g c = c.read.ensures.only_faults

pub returns-clause-named : goal.returns-clause-named
returns-clause-named g c = c.read.ensures.named

pub returns-clause-only_named : goal.returns-clause-only_named
returns-clause-only_named g c = c.read.ensures.only_named

pub returns-clause-other_count : goal.returns-clause-other_count
returns-clause-other_count g c = c.read.ensures.other_count
