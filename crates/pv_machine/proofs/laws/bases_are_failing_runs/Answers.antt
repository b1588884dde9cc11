use Rattle.pv_machine.proofs.Induction.{fails_not}
use Rattle.pv_machine.proofs.laws.bases_are_failing_runs.Goals as goal

pub returns : goal.returns
returns c = λ m n base none. fails_not m (m.start base.params) base.inputs base.fails none
