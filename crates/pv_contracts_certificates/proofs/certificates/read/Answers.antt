use Rattle.pv_contracts_certificates.proofs.certificates.read.Goals as goal

pub returns-clause-found : goal.returns-clause-found
returns-clause-found c = c.read.ensures.found

pub returns-clause-complete : goal.returns-clause-complete
returns-clause-complete c = c.read.ensures.complete

pub returns-clause-writable : goal.returns-clause-writable
returns-clause-writable c = c.read.ensures.writable

pub returns-clause-stuck : goal.returns-clause-stuck
returns-clause-stuck c = c.read.ensures.stuck

pub returns-clause-refused : goal.returns-clause-refused
returns-clause-refused c = c.read.ensures.refused
