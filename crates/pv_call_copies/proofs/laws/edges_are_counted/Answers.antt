use Rattle.pv_call_copies.proofs.Edges.{edges_are_counted}
use Rattle.pv_call_copies.proofs.laws.edges_are_counted.Goals as goal

pub returns : goal.returns
returns c = edges_are_counted
