use Rattle.pv_machine.proofs.Induction.{no_base, step_of_reachable}
use Rattle.pv_machine.proofs.laws.k_induction.Goals as goal

pub returns : goal.returns
returns c = λ m k law base step. no_base m k base (λ met. step (step_of_reachable m k law met))
