use Rattle.pv_access.proofs.Accessing.{writes}
use Rattle.pv_access.proofs.laws.writes_hold.Goals as goal

pub returns : goal.returns
returns c = writes c.conversions_hold.ensures
