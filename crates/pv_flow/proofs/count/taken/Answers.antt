use Rattle.std.proofs.Common.{◌∙◌}
use Rattle.pv_flow.proofs.Checking.{taken_seen}
use Rattle.pv_flow.proofs.count.taken.Goals as goal

pub returns : goal.returns
returns c = c.taken_in.ensures ∙ taken_seen c.args.vars.now
