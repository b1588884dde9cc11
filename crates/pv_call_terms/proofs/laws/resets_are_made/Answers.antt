use Rattle.pv_call_terms.proofs.ResetLaws.{resets_are_made}
use Rattle.pv_call_terms.proofs.laws.resets_are_made.Goals as goal

pub returns : goal.returns
returns c = resets_are_made
