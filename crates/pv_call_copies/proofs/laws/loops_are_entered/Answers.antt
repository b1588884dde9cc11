use Rattle.pv_call_copies.proofs.Laid.{loops_are_entered}
use Rattle.pv_call_copies.proofs.laws.loops_are_entered.Goals as goal

pub returns : goal.returns
returns c = loops_are_entered
