use Rattle.pv_machine.proofs.Reducing.{no_early}
use Rattle.pv_machine.proofs.reduction_laws.refuted_bases_leave_no_early_failure.Goals as goal

pub returns : goal.returns
returns c = no_early
