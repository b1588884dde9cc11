use Rattle.pv_flow.proofs.Beside.{own_variables_stay}
use Rattle.pv_flow.proofs.laws.own_variables_stay.Goals as goal

pub returns : goal.returns
returns c = own_variables_stay
