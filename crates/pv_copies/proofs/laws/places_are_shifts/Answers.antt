use Rattle.pv_copies.proofs.Whole.{places_are_shifts}
use Rattle.pv_copies.proofs.laws.places_are_shifts.Goals as goal

pub returns : goal.returns
returns c = places_are_shifts
