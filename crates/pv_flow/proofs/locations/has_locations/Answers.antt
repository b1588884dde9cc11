use Rattle.std.proofs.Common.{◌∙◌}
use Rattle.pv_flow.proofs.Checking.{locations_seen}
use Rattle.pv_flow.proofs.locations.has_locations.Goals as goal

pub returns : goal.returns
returns c = c.locations_lie.ensures ∙ locations_seen c.args.parts.now
