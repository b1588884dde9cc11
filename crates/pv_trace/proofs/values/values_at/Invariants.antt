use Rattle.std.proofs.Common.{take}
use Rattle.pv_trace.proofs.Words.{HasValues}
use Rattle.pv_trace.proofs.values.values_at.Given as goal

-- the values so far are read
abbrev pub invariant-loop-bounds : goal.invariant-loop-bounds
invariant-loop-bounds l = HasValues l.text (take l.bounds-index l.ranges) l.values l.rest
