use Rattle.pv_layout.proofs.Guards.{one_edge}
use Rattle.pv_layout.proofs.laws.one_edge.Goals as goal

pub returns : goal.returns
returns c = one_edge
