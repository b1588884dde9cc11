use Rattle.pv_terms.proofs.Values.{functions_hold}
use Rattle.pv_terms.proofs.laws.functions_hold.Goals as goal

pub returns : goal.returns
returns c = functions_hold
