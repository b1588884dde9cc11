use Rattle.pv_flow.proofs.Beside.{calls_leave_others}
use Rattle.pv_flow.proofs.laws.calls_leave_others.Goals as goal

pub returns : goal.returns
returns c = calls_leave_others
