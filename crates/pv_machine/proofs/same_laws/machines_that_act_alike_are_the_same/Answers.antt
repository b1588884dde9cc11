use Rattle.pv_machine.proofs.Same.{acts_alike}
use Rattle.pv_machine.proofs.same_laws.machines_that_act_alike_are_the_same.Goals as goal

pub returns : goal.returns
returns c = acts_alike
