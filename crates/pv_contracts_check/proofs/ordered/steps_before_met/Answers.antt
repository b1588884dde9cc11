use Rattle.pv_contracts_check.proofs.Out.{ordered}
use Rattle.pv_contracts_check.proofs.ordered.steps_before_met.Goals as goal

pub returns : goal.returns
returns g c = ordered _ _ c.check_in.result c.check_in.ensures.says
