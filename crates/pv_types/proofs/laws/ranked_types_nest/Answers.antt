use Rattle.pv_types.proofs.Grounded.{ranked_nests}
use Rattle.pv_types.proofs.laws.ranked_types_nest.Goals as goal

pub returns : goal.returns
returns c = ranked_nests
