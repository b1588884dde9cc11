use Rattle.pv_stretch.proofs.Queries.{from_image, from_state}
use Rattle.pv_stretch.proofs.laws.steps_are_stretches.Goals as goal

pub returns-clause-from_image : goal.returns-clause-from_image
returns-clause-from_image c = from_image

pub returns-clause-from_state : goal.returns-clause-from_state
returns-clause-from_state c = from_state
