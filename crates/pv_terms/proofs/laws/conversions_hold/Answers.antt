use Rattle.pv_terms.proofs.Values.{conversions_hold}
use Rattle.pv_terms.proofs.laws.conversions_hold.Goals as goal

pub returns : goal.returns
returns c = conversions_hold
