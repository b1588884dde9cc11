use Rattle.pv_variables.proofs.Told.{origins_are_told}
use Rattle.pv_variables.proofs.laws.origins_are_told.Goals as goal

pub returns : goal.returns
returns c = origins_are_told
