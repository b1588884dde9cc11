use Rattle.pv_command_load.proofs.Located.{breaches_lie}
use Rattle.pv_command_load.proofs.laws.breaches_lie_in_sources.Goals as goal

pub returns : goal.returns
returns c = breaches_lie
