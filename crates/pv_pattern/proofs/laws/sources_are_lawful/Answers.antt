use Rattle.pv_pattern.proofs.States.{lawful}
use Rattle.pv_pattern.proofs.laws.sources_are_lawful.Goals as goal

pub returns : goal.returns
returns c = lawful
