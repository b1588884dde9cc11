use Rattle.pv_mean.proofs.InstructionLaws.{run-behind}
use Rattle.pv_mean.proofs.instruction_laws.unlabelled_instructions_run_behind_one_another.Goals as goal

pub returns : goal.returns
returns c = run-behind
