use Rattle.pv_call_copies.proofs.Made.{inlined_is_well_made}
use Rattle.pv_call_copies.proofs.laws.inlined_is_well_made.Goals as goal

pub returns : goal.returns
returns c = inlined_is_well_made
