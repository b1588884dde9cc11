use Rattle.pv_contracts_load.proofs.sources_in.Goals as goal

pub returns-clause-files : goal.returns-clause-files
returns-clause-files g c = c.sources_in.ensures.files

pub returns-clause-found : goal.returns-clause-found
returns-clause-found g c = c.sources_in.ensures.found

pub returns-clause-stopped : goal.returns-clause-stopped
returns-clause-stopped g c = c.sources_in.ensures.stopped

pub returns-clause-counted : goal.returns-clause-counted
returns-clause-counted g c = c.sources_in.ensures.counted

pub returns-clause-named : goal.returns-clause-named
returns-clause-named g c = c.sources_in.ensures.named

pub returns-clause-writes : goal.returns-clause-writes
returns-clause-writes g c = c.sources_in.ensures.writes
