use Rattle.pv_command_verdict.proofs.SizeLines.{gates_told}
use Rattle.pv_command_verdict.proofs.sizes.gates_line.Goals as goal

pub returns : goal.returns
returns c = gates_told c.from_str.result c.from_str.ensures.ok
