use Rattle.pv_contracts_logs.proofs.lines.read_line.Goals as goal

pub returns-clause-found : goal.returns-clause-found
returns-clause-found c = c.read_line.ensures.found

pub returns-clause-complete : goal.returns-clause-complete
returns-clause-complete c = c.read_line.ensures.complete

pub returns-clause-writable : goal.returns-clause-writable
returns-clause-writable c = c.read_line.ensures.writable

pub returns-clause-stuck : goal.returns-clause-stuck
returns-clause-stuck c = c.read_line.ensures.stuck

pub returns-clause-refused : goal.returns-clause-refused
returns-clause-refused c = c.read_line.ensures.refused
