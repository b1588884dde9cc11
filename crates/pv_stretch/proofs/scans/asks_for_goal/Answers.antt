use Rattle.std.proofs.Common.{◌∙◌}
use Rattle.pv_stretch.proofs.Scanning.{goal_is}
use Rattle.pv_stretch.proofs.scans.asks_for_goal.Goals as goal

pub returns : goal.returns
returns c = λ source p is. c.is_goal.ensures ∙ goal_is source c.args.pattern.now p is
