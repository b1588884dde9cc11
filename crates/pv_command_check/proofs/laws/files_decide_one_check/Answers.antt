use Rattle.pv_command_check.proofs.One.{decide_one}
use Rattle.pv_command_check.proofs.laws.files_decide_one_check.Goals as goal

pub returns : goal.returns
returns c = λ files file. decide_one files file (c.files_decide_one_first.ensures files file)
