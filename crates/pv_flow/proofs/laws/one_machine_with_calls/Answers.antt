use Rattle.pv_flow.proofs.CallMachines.{one_machine_with_calls}
use Rattle.pv_flow.proofs.laws.one_machine_with_calls.Goals as goal

pub returns : goal.returns
returns c = one_machine_with_calls
