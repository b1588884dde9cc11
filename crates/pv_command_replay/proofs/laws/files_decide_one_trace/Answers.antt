use Rattle.pv_command_replay.proofs.TraceLaws.{one_trace_held}
use Rattle.pv_command_replay.proofs.laws.files_decide_one_trace.Goals as goal

pub returns : goal.returns
returns c = one_trace_held
