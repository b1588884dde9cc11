use Rattle.pv_command_verdict.proofs.SizeLines.{edges_told}
use Rattle.pv_command_verdict.proofs.sizes.edges_line.Goals as goal

pub returns : goal.returns
returns c = edges_told c.from_str.result c.from_str.ensures.ok
