use Rattle.pv_stretch.proofs.Queries.{from_start}
use Rattle.pv_stretch.proofs.laws.bases_are_stretches.Goals as goal

pub returns : goal.returns
returns c = from_start
