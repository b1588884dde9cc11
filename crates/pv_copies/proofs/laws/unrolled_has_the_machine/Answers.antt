use Rattle.pv_copies.proofs.Machine.{unrolled_has_the_machine}
use Rattle.pv_copies.proofs.laws.unrolled_has_the_machine.Goals as goal

pub returns : goal.returns
returns c = unrolled_has_the_machine
