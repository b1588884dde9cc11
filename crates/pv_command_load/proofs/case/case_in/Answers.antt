use Rattle.pv_command_load.proofs.CaseLaws.{few_in}
use Rattle.pv_command_load.proofs.case.case_in.Goals as goal

pub returns-in-Ok-clause-few : goal.returns-in-Ok-clause-few
returns-in-Ok-clause-few g c = few_in _ c.in-Ok.case c.in-Ok.ensures.found
