use Rattle.pv_queries.proofs.Reading.{some-values, one-values}
use Rattle.pv_queries.proofs.laws.bits_denote_values.Goals as goal

pub returns-clause-some : goal.returns-clause-some
returns-clause-some c = some-values

pub returns-clause-one : goal.returns-clause-one
returns-clause-one c = one-values
