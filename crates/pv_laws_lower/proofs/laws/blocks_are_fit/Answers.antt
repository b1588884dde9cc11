use Rattle.pv_laws_lower.proofs.Fitting.{blocks_are_fit}
use Rattle.pv_laws_lower.proofs.laws.blocks_are_fit.Goals as goal

pub returns : goal.returns
returns c = blocks_are_fit
