use Rattle.pv_edge.proofs.Known.{TookFront}
use Rattle.pv_edge.proofs.host.write_whole.Given as goal

-- the bytes are those that the writer took and the rest
abbrev pub invariant-loop : goal.invariant-loop
invariant-loop g l = TookFront l.bytes l.rest (g.W.Write.contents l.fn.file) (g.W.Write.contents l.file)
