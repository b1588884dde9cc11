use Rattle.pv_call_tables.proofs.Locations.{calls_are}
use Rattle.pv_call_tables.proofs.laws.calls_are.Goals as goal

pub returns : goal.returns
returns c = calls_are
