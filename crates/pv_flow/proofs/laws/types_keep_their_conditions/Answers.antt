use Rattle.pv_flow.proofs.Keeping.{types_keep}
use Rattle.pv_flow.proofs.laws.types_keep_their_conditions.Goals as goal

pub returns : goal.returns
returns c = types_keep
