use Rattle.pv_laws_lower.proofs.Operands.{all_spots_are_read}
use Rattle.pv_laws_lower.proofs.laws.spots_are_read.Goals as goal

pub returns : goal.returns
returns c = all_spots_are_read c.laws_below_hold.ensures
