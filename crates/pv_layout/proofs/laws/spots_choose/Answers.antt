use Rattle.pv_layout.proofs.Guards.{spots_choose}
use Rattle.pv_layout.proofs.laws.spots_choose.Goals as goal

pub returns : goal.returns
returns c = spots_choose
