use Rattle.pv_command_replay.proofs.Located.{ends_lie}
use Rattle.pv_command_replay.proofs.laws.ends_lie_in_sources.Goals as goal

pub returns : goal.returns
returns c = ends_lie c.scans_stop_in_sources.ensures.runs
