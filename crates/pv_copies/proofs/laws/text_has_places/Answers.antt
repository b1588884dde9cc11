use Rattle.pv_copies.proofs.Whole.{text_has_places}
use Rattle.pv_copies.proofs.laws.text_has_places.Goals as goal

pub returns : goal.returns
returns c = text_has_places
