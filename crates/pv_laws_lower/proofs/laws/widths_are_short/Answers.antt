use Rattle.pv_laws_lower.proofs.Widths.{widths_are_short}
use Rattle.pv_laws_lower.proofs.laws.widths_are_short.Goals as goal

pub returns : goal.returns
returns c = widths_are_short
