use Rattle.pv_contracts_commands.proofs.run_in.Goals as goal

pub returns-clause-files : goal.returns-clause-files
returns-clause-files g c = c.run_in.ensures.files

pub returns-clause-ran : goal.returns-clause-ran
returns-clause-ran g c = c.run_in.ensures.ran

pub returns-clause-counted : goal.returns-clause-counted
returns-clause-counted g c = c.run_in.ensures.counted

pub returns-clause-named : goal.returns-clause-named
returns-clause-named g c = c.run_in.ensures.named

pub returns-clause-writes : goal.returns-clause-writes
returns-clause-writes g c = c.run_in.ensures.writes

pub returns-clause-stopped : goal.returns-clause-stopped
returns-clause-stopped g c = c.run_in.ensures.stopped
