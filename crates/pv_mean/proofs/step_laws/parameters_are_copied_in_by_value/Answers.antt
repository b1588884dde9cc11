use Rattle.pv_mean.proofs.Copies.{all_in-outer}
use Rattle.pv_mean.proofs.step_laws.parameters_are_copied_in_by_value.Goals as goal

pub returns : goal.returns
returns c = all_in-outer
