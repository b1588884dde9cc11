use Rattle.pv_unroll.proofs.Weights.{copies_are_sized}
use Rattle.pv_unroll.proofs.laws.copies_are_sized.Goals as goal

pub returns : goal.returns
returns c = copies_are_sized
