use Rattle.pv_types.proofs.Starting.{leaves_start}
use Rattle.pv_types.proofs.laws.leaves_start_in_their_types.Goals as goal

pub returns : goal.returns
returns c = leaves_start
