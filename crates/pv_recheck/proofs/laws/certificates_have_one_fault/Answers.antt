use Rattle.pv_recheck.proofs.One.{one_fault, valid_right, valid_built}
use Rattle.pv_recheck.proofs.laws.certificates_have_one_fault.Goals as goal

pub returns-clause-one : goal.returns-clause-one
returns-clause-one c = one_fault

pub returns-clause-none : goal.returns-clause-none
returns-clause-none c = valid_right

pub returns-clause-form : goal.returns-clause-form
returns-clause-form c = valid_built
