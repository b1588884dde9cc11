use Rattle.pv_trace.proofs.Reading.{reads-ok, reads-complete, reads-stuck, reads-refused}
use Rattle.pv_trace.proofs.read.read_trace.Goals as goal

pub returns-clause-found : goal.returns-clause-found
returns-clause-found c = reads-ok c.args.params.now c.args.inputs.now c.args.bytes.now c.read_lines.result c.read_lines.ensures

pub returns-clause-complete : goal.returns-clause-complete
returns-clause-complete c = reads-complete c.args.params.now c.args.inputs.now c.args.bytes.now c.read_lines.result c.requires.params c.requires.inputs c.read_lines.ensures

pub returns-clause-stuck : goal.returns-clause-stuck
returns-clause-stuck c = reads-stuck c.args.params.now c.args.inputs.now c.args.bytes.now c.read_lines.result c.read_lines.ensures

pub returns-clause-refused : goal.returns-clause-refused
returns-clause-refused c = reads-refused c.args.params.now c.args.inputs.now c.args.bytes.now c.read_lines.result c.read_lines.ensures
