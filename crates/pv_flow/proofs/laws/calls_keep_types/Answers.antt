use Rattle.pv_flow.proofs.CallRuns.{calls_keep_types}
use Rattle.pv_flow.proofs.laws.calls_keep_types.Goals as goal

pub returns : goal.returns
returns c = calls_keep_types
