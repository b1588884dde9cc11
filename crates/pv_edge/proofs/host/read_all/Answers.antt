use Rattle.std.proofs.Common.{arith}
use Rattle.pv_edge.proofs.Known.{all-read}
use Rattle.pv_edge.proofs.host.read_all.Goals as goal

pub returns-then-n-eq0 : goal.returns-then-n-eq0
returns-then-n-eq0 g c = all-read _ _ _ _ _ _ c.loop.invariant c.in-Ok.ensures.bytes.0 c.if-n-eq0.true (c.in-Ok.ensures.bytes.1 c.if-n-eq0.true (omega arith))
