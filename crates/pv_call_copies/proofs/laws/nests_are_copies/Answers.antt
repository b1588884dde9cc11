use Rattle.pv_call_copies.proofs.Copying.{nests_are_copies}
use Rattle.pv_call_copies.proofs.laws.nests_are_copies.Goals as goal

pub returns : goal.returns
returns c = nests_are_copies
