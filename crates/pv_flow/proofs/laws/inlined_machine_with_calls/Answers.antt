use Rattle.pv_flow.proofs.CallMachines.{inlined_machine_with_calls}
use Rattle.pv_flow.proofs.laws.inlined_machine_with_calls.Goals as goal

pub returns : goal.returns
returns c = inlined_machine_with_calls
