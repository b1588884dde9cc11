use Rattle.pv_ll.proofs.Tested.{ll1_from}
use Rattle.pv_ll.proofs.OneTrace.{one_trace}
use Rattle.pv_ll.proofs.laws.texts_have_one_trace.Goals as goal

pub returns : goal.returns
returns c l trace other w h d e = one_trace (ll1_from l h) d e
