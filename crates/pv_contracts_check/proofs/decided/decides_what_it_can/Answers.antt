use Rattle.pv_contracts_check.proofs.Out.{decided}
use Rattle.pv_contracts_check.proofs.decided.decides_what_it_can.Goals as goal

pub returns : goal.returns
returns g c = decided _ _ c.check_in.result c.check_in.ensures.says
