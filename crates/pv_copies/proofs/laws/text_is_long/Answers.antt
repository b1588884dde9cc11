use Rattle.pv_copies.proofs.Whole.{text_is_long}
use Rattle.pv_copies.proofs.laws.text_is_long.Goals as goal

pub returns : goal.returns
returns c = text_is_long
