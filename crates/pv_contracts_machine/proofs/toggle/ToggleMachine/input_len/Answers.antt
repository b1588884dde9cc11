use Rattle.pv_contracts_machine.proofs.Inserting.{bytes_length}
use Rattle.pv_contracts_machine.proofs.toggle.ToggleMachine.input_len.Goals as goal

pub returns : goal.returns
returns c = bytes_length c.args.self.now.inputs
