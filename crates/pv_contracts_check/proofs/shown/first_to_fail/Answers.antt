use Rattle.pv_contracts_check.proofs.Out.{shown}
use Rattle.pv_contracts_check.proofs.shown.first_to_fail.Goals as goal

pub returns : goal.returns
returns g c = shown _ _ c.check_in.result c.check_in.ensures.says
