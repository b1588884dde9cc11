use Rattle.pv_flow.proofs.CallRuns.{calls_end}
use Rattle.pv_flow.proofs.laws.calls_end.Goals as goal

pub returns : goal.returns
returns c = calls_end
