use Rattle.pv_frames.proofs.RunValues.{run-meets}
use Rattle.pv_frames.proofs.laws.values_are_runs.Goals as goal

pub returns : goal.returns
returns c = run-meets
