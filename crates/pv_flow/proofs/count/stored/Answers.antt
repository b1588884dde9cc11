use Rattle.std.proofs.Common.{◌∙◌}
use Rattle.pv_flow.proofs.Checking.{stored_seen}
use Rattle.pv_flow.proofs.count.stored.Goals as goal

pub returns : goal.returns
returns c = c.stored_in.ensures ∙ stored_seen c.args.vars.now
