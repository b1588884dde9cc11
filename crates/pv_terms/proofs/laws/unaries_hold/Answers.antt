use Rattle.pv_terms.proofs.Values.{unaries_hold}
use Rattle.pv_terms.proofs.laws.unaries_hold.Goals as goal

pub returns : goal.returns
returns c = unaries_hold
