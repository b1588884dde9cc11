use Rattle.pv_stretch.proofs.Stretching.{is_stretch}
use Rattle.pv_stretch.proofs.laws.stretches_are_so.Goals as goal

pub returns : goal.returns
returns c = is_stretch
