use Rattle.pv_copies.proofs.Made.{unrolled_is_well_made}
use Rattle.pv_copies.proofs.laws.unrolled_is_well_made.Goals as goal

pub returns : goal.returns
returns c = unrolled_is_well_made
