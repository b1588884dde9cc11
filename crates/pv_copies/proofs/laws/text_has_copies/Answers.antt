use Rattle.pv_copies.proofs.Whole.{text_has_copies}
use Rattle.pv_copies.proofs.laws.text_has_copies.Goals as goal

pub returns : goal.returns
returns c = text_has_copies
