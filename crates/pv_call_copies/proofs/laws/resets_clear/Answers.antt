use Rattle.pv_call_copies.proofs.Renaming.{resets_clear}
use Rattle.pv_call_copies.proofs.laws.resets_clear.Goals as goal

pub returns : goal.returns
returns c = resets_clear
