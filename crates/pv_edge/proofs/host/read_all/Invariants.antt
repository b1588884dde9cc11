use Rattle.std.specs.Io.KnownBytes.{Consumes}
use Rattle.pv_edge.proofs.host.read_all.Given as goal

-- what was read so far is what the reader gave up
abbrev pub invariant-loop : goal.invariant-loop
invariant-loop g l = Consumes (g.R.Read.remaining l.fn.file) (g.R.Read.remaining l.file) l.bytes.items
