use Rattle.pv_cert.proofs.Wholes.{reads-ok, reads-complete, reads-writable, reads-stuck, reads-refused}
use Rattle.pv_cert.proofs.reader.read.Goals as goal

pub returns-clause-found : goal.returns-clause-found
returns-clause-found c = reads-ok c.args.bytes.now c.read_parts.result c.read_parts.ensures

pub returns-clause-complete : goal.returns-clause-complete
returns-clause-complete c = reads-complete c.args.bytes.now c.read_parts.result c.read_parts.ensures

pub returns-clause-stuck : goal.returns-clause-stuck
returns-clause-stuck c = reads-stuck c.args.bytes.now c.read_parts.result c.read_parts.ensures

pub returns-clause-refused : goal.returns-clause-refused
returns-clause-refused c = reads-refused c.args.bytes.now c.read_parts.result c.read_parts.ensures

pub returns-clause-writable : goal.returns-clause-writable
returns-clause-writable c = reads-writable c.args.bytes.now c.read_parts.result c.read_parts.ensures
