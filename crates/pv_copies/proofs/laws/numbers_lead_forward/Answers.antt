use Rattle.pv_copies.proofs.Counting.{numbers_lead_forward}
use Rattle.pv_copies.proofs.laws.numbers_lead_forward.Goals as goal

pub returns : goal.returns
returns c = numbers_lead_forward
