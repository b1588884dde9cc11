use Rattle.pv_call_copies.proofs.Machine.{inlined_has_the_machine}
use Rattle.pv_call_copies.proofs.laws.inlined_has_the_machine.Goals as goal

pub returns : goal.returns
returns c = inlined_has_the_machine
