use Rattle.pv_layout.proofs.Counted.{edges_are_counted}
use Rattle.pv_layout.proofs.laws.edges_are_counted.Goals as goal

pub returns : goal.returns
returns c = edges_are_counted
