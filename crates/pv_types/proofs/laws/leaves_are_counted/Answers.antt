use Rattle.pv_types.proofs.Counting.{counted_leaves}
use Rattle.pv_types.proofs.laws.leaves_are_counted.Goals as goal

pub returns : goal.returns
returns c = counted_leaves
