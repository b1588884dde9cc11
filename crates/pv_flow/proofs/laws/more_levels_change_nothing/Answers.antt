use Rattle.pv_flow.proofs.Depth.{more_levels}
use Rattle.pv_flow.proofs.laws.more_levels_change_nothing.Goals as goal

pub returns : goal.returns
returns c = more_levels
