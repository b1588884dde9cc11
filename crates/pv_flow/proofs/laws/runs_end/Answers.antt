use Rattle.pv_flow.proofs.RunEnds.{run_ends}
use Rattle.pv_flow.proofs.laws.runs_end.Goals as goal

pub returns : goal.returns
returns c = run_ends
