use Rattle.pv_laws_lower.proofs.Staying.{stays}
use Rattle.pv_laws_lower.proofs.laws.values_stay.Goals as goal

pub returns : goal.returns
returns c = stays
