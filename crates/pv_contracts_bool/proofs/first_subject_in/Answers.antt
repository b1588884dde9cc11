use Rattle.pv_contracts_bool.proofs.first_subject_in.Goals as goal

pub returns-clause-files : goal.returns-clause-files
returns-clause-files g c = c.first_subject_in.ensures.files

pub returns-clause-found : goal.returns-clause-found
returns-clause-found g c = c.first_subject_in.ensures.found

pub returns-clause-stopped : goal.returns-clause-stopped
returns-clause-stopped g c = c.first_subject_in.ensures.stopped

pub returns-clause-counted : goal.returns-clause-counted
returns-clause-counted g c = c.first_subject_in.ensures.counted

pub returns-clause-named : goal.returns-clause-named
returns-clause-named g c = c.first_subject_in.ensures.named

pub returns-clause-writes : goal.returns-clause-writes
returns-clause-writes g c = c.first_subject_in.ensures.writes
