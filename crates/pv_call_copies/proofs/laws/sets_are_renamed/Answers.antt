use Rattle.pv_call_copies.proofs.Renaming.{assigned_renamed}
use Rattle.pv_call_copies.proofs.laws.sets_are_renamed.Goals as goal

pub returns : goal.returns
returns c = assigned_renamed
