use Rattle.pv_case.proofs.OneCase.{one_case}
use Rattle.pv_case.proofs.laws.bytes_say_one_case.Goals as goal

pub returns : goal.returns
returns c = one_case
