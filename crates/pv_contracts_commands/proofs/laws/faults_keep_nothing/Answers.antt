use Rattle.pv_contracts_commands.proofs.Excluding.{faults}
use Rattle.pv_contracts_commands.proofs.laws.faults_keep_nothing.Goals as goal

pub returns : goal.returns
returns g c = faults g.S.Sink.call
