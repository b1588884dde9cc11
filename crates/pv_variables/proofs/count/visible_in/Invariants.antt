use Rattle.std.proofs.Common.{◌≡◌, ◌+◌, drop}
use Rattle.pv_mean.specs.Frames.{visible_len}
use Rattle.pv_variables.proofs.count.visible_in.Given as goal

abbrev pub invariant-loop-cell : goal.invariant-loop-cell
invariant-loop-cell l = l.n + visible_len (drop l.cell-index l.cells) ≡ visible_len l.cells
