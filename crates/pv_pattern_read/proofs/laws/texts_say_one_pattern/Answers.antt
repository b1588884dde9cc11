use Rattle.pv_pattern_read.proofs.Faults.{one_pattern}
use Rattle.pv_pattern_read.proofs.laws.texts_say_one_pattern.Goals as goal

pub returns : goal.returns
returns c = one_pattern c.texts_are_one_expression.ensures
