use Rattle.pv_call_copies.proofs.Nesting.{calls_are_nests}
use Rattle.pv_call_copies.proofs.laws.calls_are_nests.Goals as goal

pub returns : goal.returns
returns c = calls_are_nests
