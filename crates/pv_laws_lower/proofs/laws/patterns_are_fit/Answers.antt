use Rattle.pv_laws_lower.proofs.Fitting.{patterns_are_fit}
use Rattle.pv_laws_lower.proofs.laws.patterns_are_fit.Goals as goal

pub returns : goal.returns
returns c = patterns_are_fit
