use Rattle.pv_mean.proofs.InstructionLaws.{set-stores}
use Rattle.pv_mean.proofs.instruction_laws.set_and_assign_store_1.Goals as goal

pub returns : goal.returns
returns c = set-stores
