use Rattle.pv_flow.proofs.RunEnds.{acyclic_ends}
use Rattle.pv_flow.proofs.laws.acyclic_runs_end.Goals as goal

pub returns : goal.returns
returns c = acyclic_ends
