use Rattle.pv_access.proofs.Accessing.{reads}
use Rattle.pv_access.proofs.laws.reads_hold.Goals as goal

pub returns : goal.returns
returns c = reads c.conversions_hold.ensures
