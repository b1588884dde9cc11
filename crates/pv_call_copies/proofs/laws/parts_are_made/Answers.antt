use Rattle.pv_call_copies.proofs.Guards.{parts_are_made}
use Rattle.pv_call_copies.proofs.laws.parts_are_made.Goals as goal

pub returns : goal.returns
returns c = parts_are_made
