use Rattle.pv_copies.proofs.Whole.{copies_lead_to_copies}
use Rattle.pv_copies.proofs.laws.copies_lead_to_copies.Goals as goal

pub returns : goal.returns
returns c = copies_lead_to_copies
