use Rattle.pv_call_tables.proofs.Locations.{standings_are}
use Rattle.pv_call_tables.proofs.laws.standings_are.Goals as goal

pub returns : goal.returns
returns c = standings_are
