use Rattle.pv_flow.proofs.Checking.{answers_variables}
use Rattle.pv_flow.proofs.variables.has_variables.Goals as goal

pub returns : goal.returns
returns c = answers_variables c.args.parts.now c.variables_lie.result c.variables_lie.ensures
