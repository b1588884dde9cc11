use Rattle.pv_valid.proofs.One.{one-answer, some-answer}
use Rattle.pv_valid.proofs.laws.certificates_have_one_answer.Goals as goal

pub returns-clause-one : goal.returns-clause-one
returns-clause-one c = one-answer

pub returns-clause-some : goal.returns-clause-some
returns-clause-some c = some-answer
