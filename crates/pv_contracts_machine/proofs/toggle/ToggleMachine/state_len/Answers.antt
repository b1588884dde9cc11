use Rattle.std.proofs.Common.{refl}
use Rattle.pv_contracts_machine.proofs.toggle.ToggleMachine.state_len.Goals as goal

pub returns : goal.returns
returns c = refl
