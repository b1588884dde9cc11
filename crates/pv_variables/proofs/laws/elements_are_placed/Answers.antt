use Rattle.pv_variables.proofs.Moving.{elements_are_placed}
use Rattle.pv_variables.proofs.laws.elements_are_placed.Goals as goal

pub returns : goal.returns
returns c = elements_are_placed
