use Rattle.pv_pattern_read.proofs.Faults.{one_failing, read_apart}
use Rattle.pv_pattern_read.proofs.laws.first_fault_is_one.Goals as goal

pub returns-clause-one : goal.returns-clause-one
returns-clause-one c = one_failing c.texts_are_one_expression.ensures

pub returns-clause-apart : goal.returns-clause-apart
returns-clause-apart c = read_apart c.texts_are_one_expression.ensures
