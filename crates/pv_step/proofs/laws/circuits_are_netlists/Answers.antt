use Rattle.pv_step.proofs.ScanLaws.{is_circuit}
use Rattle.pv_step.proofs.laws.circuits_are_netlists.Goals as goal

pub returns : goal.returns
returns c = is_circuit
