use Rattle.pv_contracts_commands.proofs.Excluding.{commands}
use Rattle.pv_contracts_commands.proofs.laws.commands_are_not_refused.Goals as goal

pub returns : goal.returns
returns g c = commands g.S.Sink.call
