use Rattle.pv_machine.proofs.Induction.{step_of_reachable}
use Rattle.pv_machine.proofs.laws.reachable_steps_are_steps.Goals as goal

pub returns : goal.returns
returns c = step_of_reachable
