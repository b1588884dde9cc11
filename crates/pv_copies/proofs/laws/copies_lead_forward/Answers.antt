use Rattle.pv_copies.proofs.Whole.{copies_lead_forward}
use Rattle.pv_copies.proofs.laws.copies_lead_forward.Goals as goal

pub returns : goal.returns
returns c = copies_lead_forward
