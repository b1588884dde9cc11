use Rattle.pv_call_copies.proofs.Added.{variables_are_needed}
use Rattle.pv_call_copies.proofs.laws.variables_are_needed.Goals as goal

pub returns : goal.returns
returns c = variables_are_needed
