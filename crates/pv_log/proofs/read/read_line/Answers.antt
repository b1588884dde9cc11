use Rattle.pv_log.proofs.Spelled.{reads-ok, reads-complete, reads-stuck, reads-refused, reads-writable}
use Rattle.pv_log.proofs.read.read_line.Goals as goal

pub returns-clause-found : goal.returns-clause-found
returns-clause-found c = reads-ok c.args.text.now c.read.result c.read.ensures

pub returns-clause-complete : goal.returns-clause-complete
returns-clause-complete c = reads-complete c.args.text.now c.read.result c.read.ensures

pub returns-clause-writable : goal.returns-clause-writable
returns-clause-writable c = reads-writable c.args.text.now c.read.result c.read.ensures

pub returns-clause-stuck : goal.returns-clause-stuck
returns-clause-stuck c = reads-stuck c.args.text.now c.read.result c.read.ensures

pub returns-clause-refused : goal.returns-clause-refused
returns-clause-refused c = reads-refused c.args.text.now c.read.result c.read.ensures
