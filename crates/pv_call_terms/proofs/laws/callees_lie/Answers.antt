use Rattle.pv_call_terms.proofs.Lying.{callees_lie}
use Rattle.pv_call_terms.proofs.laws.callees_lie.Goals as goal

pub returns : goal.returns
returns c = callees_lie
