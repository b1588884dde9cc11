use Rattle.pv_terms.proofs.Values.{indexes_hold}
use Rattle.pv_terms.proofs.laws.indexes_hold.Goals as goal

pub returns : goal.returns
returns c = indexes_hold
