use Rattle.pv_ll.proofs.OneTrace.{leftmost}
use Rattle.pv_ll.proofs.laws.walks_pass_what_they_derive.Goals as goal

pub returns : goal.returns
returns c g trace ss steps d = leftmost d
