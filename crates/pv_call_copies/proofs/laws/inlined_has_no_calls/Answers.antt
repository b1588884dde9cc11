use Rattle.std.proofs.Common.{refl}
use Rattle.pv_call_copies.proofs.laws.inlined_has_no_calls.Goals as goal

pub returns : goal.returns
returns c = λ blocks n p lt. (refl, lt)
