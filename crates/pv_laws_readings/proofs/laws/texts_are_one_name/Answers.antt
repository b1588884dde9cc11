use Rattle.pv_laws_readings.proofs.Names.{one_name}
use Rattle.pv_laws_readings.proofs.laws.texts_are_one_name.Goals as goal

pub returns : goal.returns
returns c = one_name c.tokens_read_as_one_expression.ensures
