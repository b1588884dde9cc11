use Rattle.pv_mean.proofs.InstructionLaws.{forgets}
use Rattle.pv_mean.proofs.instruction_laws.comparisons_forget_the_result_before.Goals as goal

pub returns : goal.returns
returns c = forgets
