use Rattle.pv_terms.proofs.Values.{binaries_hold}
use Rattle.pv_terms.proofs.laws.binaries_hold.Goals as goal

pub returns : goal.returns
returns c = binaries_hold
