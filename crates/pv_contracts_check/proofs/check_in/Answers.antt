use Rattle.pv_contracts_check.proofs.check_in.Goals as goal

pub returns-clause-says : goal.returns-clause-says
returns-clause-says g c = c.check_in.ensures.says

pub returns-clause-files : goal.returns-clause-files
returns-clause-files g c = c.check_in.ensures.files

pub returns-clause-counted : goal.returns-clause-counted
returns-clause-counted g c = c.check_in.ensures.counted

pub returns-clause-named : goal.returns-clause-named
returns-clause-named g c = c.check_in.ensures.named

pub returns-clause-writes : goal.returns-clause-writes
returns-clause-writes g c = c.check_in.ensures.writes
