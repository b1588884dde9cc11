use Rattle.pv_call_copies.proofs.Placing.{copies_stand_there}
use Rattle.pv_call_copies.proofs.laws.copies_stand.Goals as goal

pub returns : goal.returns
returns c = copies_stand_there
