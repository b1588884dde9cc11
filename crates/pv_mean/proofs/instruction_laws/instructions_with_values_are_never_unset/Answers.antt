use Rattle.pv_mean.proofs.NeverUnset.{never-unset}
use Rattle.pv_mean.proofs.instruction_laws.instructions_with_values_are_never_unset.Goals as goal

pub returns : goal.returns
returns c = never-unset
