use Rattle.pv_step.proofs.Stepping.{does_the_steps}
use Rattle.pv_step.proofs.laws.circuits_do_the_steps.Goals as goal

pub returns : goal.returns
returns c = does_the_steps
