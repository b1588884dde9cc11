use Rattle.pv_copies.proofs.SameMachine.{same_machine}
use Rattle.pv_copies.proofs.laws.same_machine.Goals as goal

pub returns : goal.returns
returns c = same_machine
