use Rattle.pv_ll.proofs.Traces.{one_walk}
use Rattle.pv_ll.proofs.laws.traces_have_one_walk.Goals as goal

pub returns : goal.returns
returns c g trace ss steps others d e = one_walk d others e
