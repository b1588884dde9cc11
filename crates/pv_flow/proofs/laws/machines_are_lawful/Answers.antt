use Rattle.pv_flow.proofs.Lawful.{machine_is_lawful}
use Rattle.pv_flow.proofs.laws.machines_are_lawful.Goals as goal

pub returns : goal.returns
returns c = machine_is_lawful
