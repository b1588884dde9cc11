use Rattle.pv_laws_sizes.proofs.Copied.{call_is_copied}
use Rattle.pv_laws_sizes.proofs.laws.arguments_are_copied_for_parameters.Goals as goal

pub returns : goal.returns
returns c = call_is_copied
