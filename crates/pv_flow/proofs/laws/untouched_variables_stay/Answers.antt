use Rattle.pv_flow.proofs.Untouched.{untouched}
use Rattle.pv_flow.proofs.laws.untouched_variables_stay.Goals as goal

pub returns : goal.returns
returns c = λ p n steps x w end all e. untouched p n steps x w end all e
