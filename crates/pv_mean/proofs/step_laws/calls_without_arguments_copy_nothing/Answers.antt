use Rattle.pv_mean.proofs.Copies.{all_in-none, all_out-none}
use Rattle.pv_mean.proofs.step_laws.calls_without_arguments_copy_nothing.Goals as goal

pub returns-clause-inward : goal.returns-clause-inward
returns-clause-inward c = all_in-none

pub returns-clause-outward : goal.returns-clause-outward
returns-clause-outward c = all_out-none
