use Rattle.pv_unroll.proofs.Weights.{edges_are_sized}
use Rattle.pv_unroll.proofs.laws.edges_are_sized.Goals as goal

pub returns : goal.returns
returns c = edges_are_sized
