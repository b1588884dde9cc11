use Rattle.pv_laws_spelled.proofs.Functions.{values-are-functions}
use Rattle.pv_laws_spelled.proofs.laws.only_functions_have_values.Goals as goal

pub returns : goal.returns
returns c = values-are-functions
