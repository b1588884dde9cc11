use Rattle.pv_call_copies.proofs.Copying.{calls_are_copies}
use Rattle.pv_call_copies.proofs.laws.calls_are_copies.Goals as goal

pub returns : goal.returns
returns c = calls_are_copies
