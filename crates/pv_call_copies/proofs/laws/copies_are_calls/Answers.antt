use Rattle.pv_call_copies.proofs.Copying.{copies_are_calls}
use Rattle.pv_call_copies.proofs.laws.copies_are_calls.Goals as goal

pub returns : goal.returns
returns c = copies_are_calls
