use Rattle.std.proofs.Common.{refl}
use Rattle.pv_ll.proofs.Tested.{ll1_from}
use Rattle.pv_ll.proofs.Runs.{plays_to}
use Rattle.pv_ll.proofs.laws.turns_do_what_texts_do.Goals as goal

pub returns : goal.returns
returns g c l m acts turns ts s behind h idle told r = plays_to (ll1_from l h) idle told refl r
