use Rattle.pv_laws_lower.proofs.Operands.{all_assigned_hold}
use Rattle.pv_laws_lower.proofs.laws.assigned_hold.Goals as goal

pub returns : goal.returns
returns c = all_assigned_hold c.laws_below_hold.ensures
