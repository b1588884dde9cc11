use Rattle.pv_case.proofs.OneCase.{one_breach, case_unbroken}
use Rattle.pv_case.proofs.laws.first_breach_is_one.Goals as goal

pub returns-clause-one : goal.returns-clause-one
returns-clause-one c = one_breach

pub returns-clause-apart : goal.returns-clause-apart
returns-clause-apart c = case_unbroken
