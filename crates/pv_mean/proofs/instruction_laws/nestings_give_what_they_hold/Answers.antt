use Rattle.pv_mean.proofs.InstructionLaws.{nested}
use Rattle.pv_mean.proofs.instruction_laws.nestings_give_what_they_hold.Goals as goal

pub returns : goal.returns
returns c = nested
