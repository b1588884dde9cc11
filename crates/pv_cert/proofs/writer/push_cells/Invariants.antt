use Rattle.std.proofs.Common.{◌≡◌, ◌++◌, take}
use Rattle.pv_cert.specs.ChainText.{cells_text}
use Rattle.pv_cert.proofs.writer.push_cells.Given as goal

-- the cells so far are written
abbrev pub invariant-loop-cell : goal.invariant-loop-cell
invariant-loop-cell l = l.text.items ≡ l.initial.text.items ++ cells_text (take l.cell-index l.cells)
