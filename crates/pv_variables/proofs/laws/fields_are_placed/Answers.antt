use Rattle.pv_variables.proofs.Placing.{fields_are_placed}
use Rattle.pv_variables.proofs.laws.fields_are_placed.Goals as goal

pub returns : goal.returns
returns c = fields_are_placed
