use Rattle.pv_variables.proofs.Placing.{names_are_placed}
use Rattle.pv_variables.proofs.laws.names_are_placed.Goals as goal

pub returns : goal.returns
returns c = names_are_placed
