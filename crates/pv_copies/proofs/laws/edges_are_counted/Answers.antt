use Rattle.pv_copies.proofs.Counting.{edges_are_counted}
use Rattle.pv_copies.proofs.laws.edges_are_counted.Goals as goal

pub returns : goal.returns
returns c = edges_are_counted
