use Rattle.pv_contracts_load.proofs.read.Goals as goal

pub returns-clause-files : goal.returns-clause-files
returns-clause-files g c = c.read.ensures.files

pub returns-clause-held : goal.returns-clause-held
returns-clause-held g c = c.read.ensures.held

pub returns-clause-stopped : goal.returns-clause-stopped
returns-clause-stopped g c = c.read.ensures.stopped

pub returns-clause-counted : goal.returns-clause-counted
returns-clause-counted g c = c.read.ensures.counted

pub returns-clause-named : goal.returns-clause-named
returns-clause-named g c = c.read.ensures.named

pub returns-clause-writes : goal.returns-clause-writes
returns-clause-writes g c = c.read.ensures.writes
