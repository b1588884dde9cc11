use Rattle.pv_frames.proofs.RunsHold.{run-holds}
use Rattle.pv_frames.proofs.laws.runs_have_values.Goals as goal

pub returns : goal.returns
returns c = run-holds
