use Rattle.pv_bool.proofs.Numbers.{lawful}
use Rattle.pv_bool.proofs.laws.machines_are_lawful.Goals as goal

pub returns : goal.returns
returns c = lawful
