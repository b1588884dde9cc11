use Rattle.pv_layout.proofs.Whole.{whole_reaches}
use Rattle.pv_layout.proofs.laws.wholes_end.Goals as goal

pub returns : goal.returns
returns c = whole_reaches
