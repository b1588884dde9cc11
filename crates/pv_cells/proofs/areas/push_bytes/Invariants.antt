use Rattle.std.proofs.Common.{◌≡◌, ◌++◌, map, drop}
use Rattle.pv_mean.specs.Cells.{byte_cell}
use Rattle.pv_cells.proofs.areas.push_bytes.Given as goal

abbrev pub invariant-loop-n : goal.invariant-loop-n
invariant-loop-n l = l.cells.items ++ map (byte_cell l.letter l.role) (drop l.n-index l.numbers) ≡ l.initial.cells.items ++ map (byte_cell l.letter l.role) l.numbers
