use Rattle.pv_machine.proofs.Induction.{no_base}
use Rattle.pv_machine.proofs.laws.k_induction_over_reachable_states.Goals as goal

pub returns : goal.returns
returns c = no_base
