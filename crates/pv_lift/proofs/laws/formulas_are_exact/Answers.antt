use Rattle.pv_lift.proofs.Exact.{exact}
use Rattle.pv_lift.proofs.laws.formulas_are_exact.Goals as goal

pub returns : goal.returns
returns c = λ source p m form start circuit q is steps same asked. exact source p m form start circuit q is steps same asked
