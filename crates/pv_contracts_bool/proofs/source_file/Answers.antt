use Rattle.pv_contracts_bool.proofs.source_file.Goals as goal

pub returns-clause-some : goal.returns-clause-some
returns-clause-some c = c.source_file.ensures.some

pub returns-clause-none : goal.returns-clause-none
returns-clause-none c = c.source_file.ensures.none
