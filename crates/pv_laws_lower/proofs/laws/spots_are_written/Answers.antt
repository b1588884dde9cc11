use Rattle.pv_laws_lower.proofs.Operands.{all_spots_are_written}
use Rattle.pv_laws_lower.proofs.laws.spots_are_written.Goals as goal

pub returns : goal.returns
returns c = all_spots_are_written c.laws_below_hold.ensures
