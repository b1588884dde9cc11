use Rattle.pv_laws_lower.proofs.Operands.{all_values_hold}
use Rattle.pv_laws_lower.proofs.laws.values_hold.Goals as goal

pub returns : goal.returns
returns c = all_values_hold c.laws_below_hold.ensures
