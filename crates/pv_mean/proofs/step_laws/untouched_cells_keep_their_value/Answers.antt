use Rattle.pv_mean.proofs.Steps.{untouched}
use Rattle.pv_mean.proofs.step_laws.untouched_cells_keep_their_value.Goals as goal

pub returns : goal.returns
returns c = untouched
