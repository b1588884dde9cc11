use Rattle.pv_call_copies.proofs.Renaming.{value_renamed}
use Rattle.pv_call_copies.proofs.laws.terms_are_renamed.Goals as goal

pub returns : goal.returns
returns c = value_renamed
