use Rattle.pv_laws_lower.proofs.Entered.{entry_lies}
use Rattle.pv_laws_lower.proofs.laws.entry_lies.Goals as goal

pub returns : goal.returns
returns c = entry_lies c.bound_are_counted.ensures
