use Rattle.pv_call_copies.proofs.Variables.{variables_stay}
use Rattle.pv_call_copies.proofs.laws.variables_stay.Goals as goal

pub returns : goal.returns
returns c = variables_stay
