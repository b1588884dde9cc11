use Rattle.pv_laws_lower.proofs.Operands.{all_places_hold}
use Rattle.pv_laws_lower.proofs.laws.places_hold.Goals as goal

pub returns : goal.returns
returns c = all_places_hold c.laws_below_hold.ensures
