use Rattle.pv_pattern_read.proofs.Readings.{one_text}
use Rattle.pv_pattern_read.proofs.laws.texts_are_one_expression.Goals as goal

pub returns : goal.returns
returns c = one_text c.tokens_read_as_one_expression.ensures
