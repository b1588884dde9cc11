use Rattle.pv_types.proofs.Differing.{paths_differ}
use Rattle.pv_types.proofs.laws.paths_of_leaves_differ.Goals as goal

pub returns : goal.returns
returns c = paths_differ
