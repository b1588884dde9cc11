use Rattle.pv_access.proofs.Choosing.{chooses}
use Rattle.pv_access.proofs.laws.choices_hold.Goals as goal

pub returns : goal.returns
returns c = chooses c.conversions_hold.ensures
