use Rattle.std.proofs.Common.{refl}
use Rattle.pv_sizes.proofs.laws.lists_are_sums.Goals as goal

pub returns : goal.returns
returns c scope s more = refl
