use Rattle.std.proofs.Common.{◌≡◌, ◌+◌, drop}
use Rattle.pv_edge.specs.Entries.{index_of}
use Rattle.pv_edge.proofs.memory.find.Given as goal

abbrev pub invariant-loop-i : goal.invariant-loop-i
invariant-loop-i l = l.i + index_of (drop l.i l.files) l.name ≡ index_of l.files l.name
